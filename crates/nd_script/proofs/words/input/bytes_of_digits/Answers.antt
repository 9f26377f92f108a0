use Rattle.std.proofs.Common.{◌≡◌, ◌∙◌, ◌/◌, sym, ap, length, Some}
use Rattle.std.specs.Prelude.{drop}
use Rattle.nd_script.proofs.words.HexWords.{odd, decoded, undecoded, written_over}
use Rattle.nd_script.proofs.words.input.bytes_of_digits.Goals as goal

pub returns-then-digits-eq1 : goal.returns-then-digits-eq1
returns-then-digits-eq1 c = sym (odd c.args.word.now (rw c.as_bytes-digits.ensures.value at c.if-digits-eq1.true))

pub returns-in-Ok : goal.returns-in-Ok
returns-in-Ok c =
    let text = c.args.word.now in
    let out = c.decode_to_slice.new.out in
    let same : length out ≡ length c.deref_mut.result.now = c.decode_to_slice.auto.out in
    let room : length c.deref_mut.result.now ≡ length text / 2 = rw (← c.as_bytes-digits.ensures.value, c.deref_mut.ensures.len) c.in_ok-bytes.ensures.len in
    let told = decoded c.decode_to_slice.result out text (length c.deref_mut.result.now) (rw c.as_bytes-digits.ensures.value at c.if-digits-eq1.false) room
    (rw c.as_bytes-digits.ensures.value at c.decode_to_slice.ensures.value) c.in-Ok.is in
    ap Some (written_over c.in_ok-bytes.bytes.len out (drop (length out) c.in_ok-bytes.bytes.items) (same ∙ c.deref_mut.ensures.len)) ∙ sym told

pub returns-in-Err : goal.returns-in-Err
returns-in-Err c =
    let text = c.args.word.now in
    let room : length c.deref_mut.result.now ≡ length text / 2 = rw (← c.as_bytes-digits.ensures.value, c.deref_mut.ensures.len) c.in_ok-bytes.ensures.len in
    sym (undecoded c.decode_to_slice.result c.decode_to_slice.new.out text (length c.deref_mut.result.now) c.in-Err.field-0 (rw c.as_bytes-digits.ensures.value at c.if-digits-eq1.false) room
    (rw c.as_bytes-digits.ensures.value at c.decode_to_slice.ensures.value) c.in-Err.is)
