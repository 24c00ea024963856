-- How answers are written. Assumes nothing.
use Rattle.std.specs.Prelude.{ℕ, ◌+◌, List, [], ◌∷◌, ◌++◌, length, take, drop, Some, None, codes, decimal, Option}
use Rattle.stations.specs.declared.answer.Answer.{Answer}
use Rattle.stations.specs.Answers.{word_of, value_of}
use Rattle.script.specs.declared.fault.Fault.{Fault}
use Rattle.script.specs.Bytes.{line_feed, space}
use Rattle.script.specs.Faults.{fault_number}

-- the line above the answers
abbrev pub heading : List ℕ
heading = codes "line answer value" ++ (line_feed ∷ [])

abbrev pub value_text : Option ℕ → List ℕ
value_text (Some n) = decimal n
value_text None = codes "-"

-- an answer: the number of the line that it answers, a word, and a value or a dash
abbrev pub answer_line : ℕ → List ℕ → Option ℕ → List ℕ
answer_line line word value =
    decimal line ++ (space ∷ []) ++ word ++ (space ∷ []) ++ value_text value ++ (line_feed ∷ [])

-- a buffer with the text from a place on; the rest of it is as it was
abbrev pub overwritten : ℕ → List ℕ → List ℕ → List ℕ
overwritten at text out = take at out ++ (text ++ drop (at + length text) out)

-- the line that tells an answer
abbrev pub told : ℕ → Answer → List ℕ
told line answer = answer_line line (word_of answer) (value_of answer)

-- the line that tells of a fault
abbrev pub fault_line : ℕ → Fault → List ℕ
fault_line line fault = answer_line line (codes "fault") (Some (fault_number fault))
