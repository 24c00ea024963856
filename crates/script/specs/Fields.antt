-- The fields of a line: a name, a number or a dash. Assumes nothing.
use Rattle.std.specs.Prelude.{ℕ, ◌+◌, ◌-◌, ◌*◌, ◌^◌, Bool, true, cond, not, ◌&&◌, List, [], ◌∷◌, Some, None, codes, Option, ◌==◌, nat_lt}
use Rattle.std.specs.Str.{bytes_eq, all_ascii_digits}
use Rattle.script.specs.declared.field.Field.{Field as Read}
use Rattle.script.specs.declared.field.Field.TheVariants as read

-- a field by its bytes; whatever is no number and no dash is a name, an empty field too
pub data Field : Type 0 where
  name : List ℕ → Field
  number : ℕ → Field
  dash : Field

-- the field that the reader hands out, whose name case borrows its part of the script
abbrev pub field_of : Read → Field
field_of (read.Name part) = Field.name part.now
field_of (read.Number n) = Field.number n
field_of read.Dash = Field.dash

-- the number that decimal digits write, after those of n
abbrev pub value_after : ℕ → List ℕ → ℕ
value_after n [] = n
value_after n (digit ∷ digits) = value_after (n * 10 + (digit - 48)) digits

-- that number, if there are only digits and it fits 64 bits
abbrev pub number_after : ℕ → List ℕ → Option ℕ
number_after n bs = cond (all_ascii_digits bs && nat_lt (value_after n bs) (2 ^ 64)) (Some (value_after n bs)) None

-- the digit 0 begins no number but zero
abbrev pub unpadded : List ℕ → Bool
unpadded [] = true
unpadded (only ∷ []) = true
unpadded (first ∷ second ∷ rest) = not (first == 48)

-- a number is written in digits, one at least, without sign or leading zero, and fits 64 bits
abbrev pub numeral : List ℕ → Option ℕ
numeral [] = None
numeral (digit ∷ digits) = cond (unpadded (digit ∷ digits)) (number_after 0 (digit ∷ digits)) None

abbrev pub number_or_name : Option ℕ → List ℕ → Field
number_or_name (Some n) bs = Field.number n
number_or_name None bs = Field.name bs

abbrev pub field : List ℕ → Field
field bs = cond (bytes_eq bs (codes "-")) Field.dash (number_or_name (numeral bs) bs)
