use Rattle.std.proofs.Common.{◌≡◌, Contains, [], length, string_bytes}
use denote.Text.{Utf8}
use denote.Shadow.{shadow}
use Rattle.test_rows.proofs.escape.unescape.Given as goal

-- up to the first backslash nothing is read
abbrev pub invariant-loop-plain : goal.invariant-loop-plain
invariant-loop-plain l =
    shadow (Utf8 l.rest) × (¬ Contains l.line 92 → (l.rest ≡ l.line) × (string_bytes l.text ≡ []))

abbrev pub decreases-loop-plain : goal.decreases-loop-plain
decreases-loop-plain l = length l.rest
