-- How a text of bytes is parted: at the first of some byte, and into lines. Assumes nothing.
use Rattle.std.specs.Prelude.{◌≡◌, ℕ, ◌-◌, ◌<◌, Bool, true, List, length, take, ◌==◌, count_by, slice_index_or}
use Rattle.std.specs.List.{before_first, after_first, slice_split}

-- a line feed ends a line; a space parts two fields
abbrev pub line_feed : ℕ
line_feed = 10

abbrev pub space : ℕ
space = 32

-- what stands before the first b: all, where there is none
abbrev pub before : ℕ → List ℕ → List ℕ
before b xs = before_first (λ x. x == b) xs

-- what stands after the first b: nothing, where there is none
abbrev pub after : ℕ → List ℕ → List ℕ
after b xs = after_first (λ x. x == b) xs

-- how often b comes
abbrev pub count : ℕ → List ℕ → ℕ
count b xs = count_by (λ x. x == b) xs

-- the lines, each without the line feed that ends it; what follows the last line feed is no line
abbrev pub lines : List ℕ → List (List ℕ)
lines xs = take (count line_feed xs) (slice_split (λ x. x == line_feed) xs)

-- the byte at the last place is a line feed; the empty text counts as having 0 there, which is none
abbrev pub ended : List ℕ → Bool
ended xs = slice_index_or xs (length xs - 1) 0 == line_feed

-- each byte belongs to a line
abbrev pub Whole : List ℕ → Type 0
Whole xs = 0 < length xs → ended xs ≡ true
