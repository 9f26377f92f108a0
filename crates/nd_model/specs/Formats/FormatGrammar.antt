-- The grammar of format strings (PEP 3118), over their bytes by kinds:
--   format = {order} ( code | "T{" {pad} field {pad | field} {order} "}" )
--   field  = {order} code ":" name ":"      pad = {order} [count] "x"
-- Spaces may stand behind `T{`, and behind an order character, a pad and a field.
use Rattle.std.specs.Prelude.{ℕ, ◌+◌, ◌-◌, ◌^◌, ◌==◌, nat_le, Bool, ◌||◌, ◌&&◌, if◌then◌else◌}
use Rattle.nd_model.specs.Arrays.Structure.{is_control, is_mark}
use Rattle.nd_model.specs.Formats.Rules.{Rule, One, Then, Or, Many}

-- ---- kinds of bytes

-- `@ ^ = < > !`
abbrev pub ORDER_KIND : ℕ
ORDER_KIND = 0

-- `? b B h H i I q Q l L`
abbrev pub CODE_KIND : ℕ
CODE_KIND = 1

-- `x`
abbrev pub CROSS_KIND : ℕ
CROSS_KIND = 2

abbrev pub DIGIT_KIND : ℕ
DIGIT_KIND = 3

-- `T`
abbrev pub TEE_KIND : ℕ
TEE_KIND = 4

-- `{`
abbrev pub OPEN_KIND : ℕ
OPEN_KIND = 5

-- `}`
abbrev pub CLOSE_KIND : ℕ
CLOSE_KIND = 6

abbrev pub COLON_KIND : ℕ
COLON_KIND = 7

abbrev pub SPACE_KIND : ℕ
SPACE_KIND = 8

-- 194, which begins U+0080 to U+00BF in UTF-8
abbrev pub LEAD_KIND : ℕ
LEAD_KIND = 9

-- what stands in names alone
abbrev pub PLAIN_KIND : ℕ
PLAIN_KIND = 10

-- 128 to 159, which behind 194 are the second bytes of control characters
abbrev pub TAIL_KIND : ℕ
TAIL_KIND = 11

-- a control character of one byte, a quote of either kind, or a backslash
abbrev pub BARRED_KIND : ℕ
BARRED_KIND = 12

abbrev pub is_order : ℕ → Bool
is_order b = b == 64 || b == 94 || b == 61 || b == 60 || b == 62 || b == 33

abbrev pub is_code : ℕ → Bool
is_code b = b == 63 || b == 98 || b == 66 || b == 104 || b == 72 || b == 105 || b == 73 || b == 113 || b == 81 || b == 108 || b == 76

abbrev pub is_digit : ℕ → Bool
is_digit b = nat_le 48 b && nat_le b 57

abbrev pub byte_kind : ℕ → ℕ
byte_kind b =
    if is_order b then ORDER_KIND
    else (if is_code b then CODE_KIND
    else (if b == 120 then CROSS_KIND
    else (if is_digit b then DIGIT_KIND
    else (if b == 84 then TEE_KIND
    else (if b == 123 then OPEN_KIND
    else (if b == 125 then CLOSE_KIND
    else (if b == 58 then COLON_KIND
    else (if b == 32 then SPACE_KIND
    else (if b == 194 then LEAD_KIND
    else (if nat_le 128 b && nat_le b 159 then TAIL_KIND
    else (if is_control 0 b || is_mark b then BARRED_KIND else PLAIN_KIND)))))))))))

-- ---- sets of kinds

abbrev pub ORDER : ℕ
ORDER = 2 ^ ORDER_KIND

abbrev pub CODE : ℕ
CODE = 2 ^ CODE_KIND

abbrev pub CROSS : ℕ
CROSS = 2 ^ CROSS_KIND

abbrev pub DIGIT : ℕ
DIGIT = 2 ^ DIGIT_KIND

abbrev pub TEE : ℕ
TEE = 2 ^ TEE_KIND

abbrev pub OPEN : ℕ
OPEN = 2 ^ OPEN_KIND

abbrev pub CLOSE : ℕ
CLOSE = 2 ^ CLOSE_KIND

abbrev pub COLON : ℕ
COLON = 2 ^ COLON_KIND

abbrev pub SPACE : ℕ
SPACE = 2 ^ SPACE_KIND

abbrev pub LEAD : ℕ
LEAD = 2 ^ LEAD_KIND

abbrev pub PLAIN : ℕ
PLAIN = 2 ^ PLAIN_KIND

-- what begins a character of a name, and what does so without a second byte to look at
abbrev pub NAME : ℕ
NAME = 2 ^ BARRED_KIND - 1 - COLON

abbrev pub NAME_BYTE : ℕ
NAME_BYTE = NAME - LEAD

-- what begins a pad or an order character, and these or a field
abbrev pub LEADING : ℕ
LEADING = ORDER + CROSS + DIGIT

abbrev pub ITEM : ℕ
ITEM = LEADING + CODE

-- ---- roles of bytes

abbrev pub ORDER_ROLE : ℕ
ORDER_ROLE = 0

-- the code of a format that is no structure
abbrev pub SINGLE_ROLE : ℕ
SINGLE_ROLE = 1

-- the code of a field
abbrev pub CODE_ROLE : ℕ
CODE_ROLE = 2

-- the colon before a name, and the one behind it
abbrev pub COLON_ROLE : ℕ
COLON_ROLE = 3

abbrev pub NAME_ROLE : ℕ
NAME_ROLE = 4

abbrev pub NAME_END_ROLE : ℕ
NAME_END_ROLE = 5

abbrev pub DIGIT_ROLE : ℕ
DIGIT_ROLE = 6

abbrev pub PAD_ROLE : ℕ
PAD_ROLE = 7

abbrev pub TEE_ROLE : ℕ
TEE_ROLE = 8

abbrev pub OPEN_ROLE : ℕ
OPEN_ROLE = 9

abbrev pub CLOSE_ROLE : ℕ
CLOSE_ROLE = 10

abbrev pub SPACE_ROLE : ℕ
SPACE_ROLE = 11

-- ---- rules

abbrev pub spaces : Rule
spaces = Many SPACE (One SPACE_ROLE SPACE)

abbrev pub order : Rule
order = Then (One ORDER_ROLE ORDER) spaces

abbrev pub cross : Rule
cross = One PAD_ROLE CROSS

abbrev pub digit : Rule
digit = One DIGIT_ROLE DIGIT

abbrev pub many_pads : Rule
many_pads = Then digit (Then (Many DIGIT digit) cross)

abbrev pub pad : Rule
pad = Then (Or DIGIT many_pads cross) spaces

-- U+0080 to U+009F are no part of a name
abbrev pub name_part : Rule
name_part = Or LEAD (Then (One NAME_ROLE LEAD) (One NAME_ROLE PLAIN)) (One NAME_ROLE NAME_BYTE)

abbrev pub name : Rule
name = Then name_part (Many NAME name_part)

abbrev pub field : Rule
field = Then (One CODE_ROLE CODE) (Then (One COLON_ROLE COLON) (Then name (Then (One NAME_END_ROLE COLON) spaces)))

abbrev pub items : Rule
items = Then (Many LEADING (Or ORDER order pad)) (Then field (Many ITEM (Or ORDER order (Or CODE field pad))))

abbrev pub structure : Rule
structure = Then (One TEE_ROLE TEE) (Then (One OPEN_ROLE OPEN) (Then spaces (Then items (One CLOSE_ROLE CLOSE))))

unfoldable pub format : Rule
format = Then (Many ORDER order) (Or TEE structure (One SINGLE_ROLE CODE))
