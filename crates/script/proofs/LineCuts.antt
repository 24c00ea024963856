-- The lines of a text. Assumes nothing.
use Rattle.std.proofs.Common.{◌≡◌, ℕ, suc, ◌-◌, ◌<◌, Bool, true, eqb, List, ◌∷◌, length, take, sym, ap, ◌∙◌, ⊎_elim, arith}
use Rattle.std.specs.List.{position_or_len, slice_split}
use Rattle.std.proofs.lemmas.Bool.{both_ways, cases_lt}
use Rattle.std.proofs.lemmas.List.{length-take-le}
use Rattle.std.proofs.lemmas.List.Splits.{slice_split_first, length-slice_split}
use Rattle.std.proofs.lemmas.List.Sums.{fails_before_first}
use Rattle.script.specs.Bytes.{line_feed, before, after, count, lines, ended, Whole}

abbrev ends_line : ℕ → Bool
ends_line x = eqb x line_feed

pub count-lines : (xs : List ℕ) → count line_feed xs ≡ length (lines xs)
count-lines xs =
    sym (length-take-le (count line_feed xs) (slice_split ends_line xs) (omega (arith, length-slice_split ends_line xs)))

-- a text that ends with a line feed has a first one
has_line : (xs : List ℕ) → 0 < length xs → ended xs ≡ true → position_or_len ends_line xs < length xs
has_line xs some e =
    ⊎_elim
    (λ at. at)
    (λ past. absurd (both_ways _ (fails_before_first ends_line xs (length xs - 1) 0 (omega arith)) e))
    (cases_lt (position_or_len ends_line xs) (length xs))

-- the first line of a text, and the others
pub lines_cut : (xs : List ℕ) → Whole xs → 0 < length xs → lines xs ≡ before line_feed xs ∷ lines (after line_feed xs)
lines_cut xs whole some =
    let parts = slice_split_first ends_line xs 0 (has_line xs some (whole some)) in
    let more : count line_feed xs ≡ suc (count line_feed (after line_feed xs)) = omega (arith, ap length parts, length-slice_split ends_line xs, length-slice_split ends_line (after line_feed xs)) in
    ap (λ n. take n (slice_split ends_line xs)) more ∙ ap (take (suc (count line_feed (after line_feed xs)))) parts
