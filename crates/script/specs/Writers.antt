-- What a writer does to its buffer. Assumes nothing.
use Rattle.std.specs.Prelude.{◌≡◌, ℕ, ◌+◌, ◌≤◌, List, length}
use Rattle.script.specs.declared.writer.Writer.{Writer}
use Rattle.script.specs.Written.{overwritten}

-- n bytes more fit behind what is written
abbrev pub Room : ℕ → Writer → Type 0
Room n w = w.len + n ≤ length w.out.now

-- the text was written behind what was written before, into the same buffer, and nothing else was
pub record Appends (text : List ℕ) (w v : Writer) : Type 0 where
  pub bytes : v.out.now ≡ overwritten w.len text w.out.now
  pub end : v.len ≡ w.len + length text
  pub room : length v.out.now ≡ length w.out.now
  pub same : v.out.ghost_name ≡ w.out.ghost_name
