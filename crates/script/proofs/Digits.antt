-- What `parse` says of a text that begins with a digit, in the words of the fields. Assumes nothing.
use Rattle.std.proofs.Common.{◌≡◌, ℕ, ◌<◌, ◌≤◌, true, not, List, [], ◌∷◌, length, get_or, Some, None, Ok, Err, Result, sym, refl, ap, ◌∙◌, arith, rules}
use Rattle.std.specs.Result.{result_ok}
use Rattle.std.specs.Str.{all_ascii_digits, IsUtf8}
use Rattle.std.specs.Str.Parse.{ParsesUnsigned}
use Rattle.std.proofs.lemmas.Bool.{cond-true, cond-false, and_parts, and_from, lt-ltb, ltb-true, ne_eqb, false_from_ne_true, and_left}
use Rattle.std.proofs.lemmas.Fmt.{IsAscii-from_digits}
use Rattle.std.proofs.lemmas.Str.{IsUtf8-from_ascii}
use Rattle.std.proofs.lemmas.Str.Parse.{IsNumeralModel, numerals_by_fold, parse_plain}
use Rattle.script.specs.Fields.{value_after, number_after, unpadded, numeral}

own : IsNumeralModel (λ ds. all_ascii_digits ds ≡ true) (value_after 0)
own = numerals_by_fold _ (search rules) value_after (search rules)

-- the digit 0 alone, or a text that begins with another digit
pub record Begins (bs : List ℕ) : Type 0 where
  pub low : 48 ≤ get_or bs 0 0
  pub some : 0 < length bs
  pub plain : get_or bs 0 0 ≡ 48 → length bs ≡ 1

unpadded_from : (bs : List ℕ) → Begins bs → unpadded bs ≡ true
unpadded_from [] b = refl
unpadded_from (x ∷ []) b = refl
unpadded_from (x ∷ y ∷ bs) b = ap not (ne_eqb x 48 (λ e. omega (arith, b.plain e)))

numeral_from : (bs : List ℕ) → Begins bs → numeral bs ≡ number_after 0 bs
numeral_from [] b = absurd (omega (arith, b.some))
numeral_from (x ∷ bs) b = cond-true _ _ _ (unpadded_from (x ∷ bs) b)

pub numeral_parsed : {E : Type 0} (bs : List ℕ) (r : Result ℕ E) → Begins bs → ParsesUnsigned 64 10 bs r → result_ok r ≡ numeral bs
numeral_parsed {E} bs (Ok n) b h =
    let p = parse_plain own {E = E} 64 bs (Ok n) h (λ e. omega (arith, b.low)) in
    ap Some p.1 ∙ sym (numeral_from bs b ∙ cond-true _ _ _ (and_from _ _ p.0.0 (lt-ltb _ _ p.0.2)))
numeral_parsed bs (Err e) b h =
    let p = parse_plain own 64 bs (Err e) h (λ e. omega (arith, b.low)) in
    sym
    (numeral_from bs b
    ∙ cond-false _ _ _ (false_from_ne_true _ (λ t. let both = and_parts _ _ t in p (both.0, b.some, ltb-true _ _ both.1))))

-- a text that is no UTF-8 has a byte that is no digit
pub numeral_not_utf8 : (bs : List ℕ) → Begins bs → (IsUtf8 bs → ⊥) → None ≡ numeral bs
numeral_not_utf8 bs b h =
    sym
    (numeral_from bs b
    ∙ cond-false _ _ _ (and_left _ _ (false_from_ne_true _ (λ digits. h (IsUtf8-from_ascii bs (IsAscii-from_digits bs (own.to bs digits)))))))
