-- A buffer that is written piece by piece. Assumes nothing.
use Rattle.std.proofs.Common.{◌≡◌, ℕ, ◌+◌, ◌^◌, ◌<◌, ◌≤◌, List, [], ◌∷◌, ◌++◌, length, take, drop, Some, None, codes, decimal, Option, sym, ap, ◌∙◌, append_assoc, arith}
use Rattle.std.proofs.lemmas.List.{drop-drop, length-append, length-take-le, take_at, drop_at}
use Rattle.script.specs.declared.writer.Writer.{Writer}
use Rattle.script.specs.Bytes.{line_feed, space}
use Rattle.std.proofs.lemmas.Fmt.{length-decimal-le}
use Rattle.stations.specs.declared.answer.Answer.{Answer}
use Rattle.stations.specs.Answers.{word_of, value_of, Below64}
use Rattle.script.specs.declared.fault.Fault.{Fault}
use Rattle.script.specs.Faults.{fault_number}
use Rattle.script.specs.Written.{overwritten, heading, value_text, answer_line, told, fault_line}
use Rattle.script.specs.Writers.{Room, Appends}

-- one text after another is both
pub overwritten_more : (at : ℕ) (a b out : List ℕ) → at + length a ≤ length out → overwritten (at + length a) b (overwritten at a out) ≡ overwritten at (a ++ b) out
overwritten_more at a b out fits =
    let n = at + length a in
    let m = n + length b in
    let front = take at out ++ a in
    let whole : overwritten at a out ≡ front ++ drop n out = sym (append_assoc (take at out) a (drop n out)) in
    let long : length front ≡ n = omega (arith, length-append (take at out) a, length-take-le at out (omega arith)) in
    let first : take n (overwritten at a out) ≡ front = ap (take n) whole ∙ take_at front (drop n out) n long in
    let last : drop m (overwritten at a out) ≡ drop m out = sym (drop-drop (length b) n (overwritten at a out)) ∙ ap (drop (length b)) (ap (drop n) whole ∙ drop_at front (drop n out) n long) ∙ drop-drop (length b) n out in
    let end : m ≡ at + length (a ++ b) = omega (arith, length-append a b) in
    ap (λ l. l ++ (b ++ drop m (overwritten at a out))) first ∙ ap (λ l. front ++ (b ++ l)) last
    ∙ append_assoc (take at out) a (b ++ drop m out)
    ∙ ap (λ l. take at out ++ l) (sym (append_assoc a b (drop m out)))
    ∙ ap (λ k. take at out ++ (a ++ b ++ drop k out)) end

-- one text is written after another
pub appends_more : (a b : List ℕ) (w v u : Writer) → Room (length a) w → Appends a w v → Appends b v u → Appends (a ++ b) w u
appends_more a b w v u fits first second =
    let at = w.len in
    let out = w.out.now in
    record {
      bytes = second.bytes ∙ ap (λ n. overwritten n b v.out.now) first.end ∙ ap (overwritten (at + length a) b) first.bytes ∙ overwritten_more at a b out fits;
      end = omega (arith, first.end, second.end, length-append a b);
      room = second.room ∙ first.room;
      same = second.same ∙ first.same;
    }

-- the six pieces of an answer line, one after another
module _ (line : ℕ) (word : List ℕ) (value : Option ℕ) where
  pub length-answer_line : length (answer_line line word value) ≡ length (decimal line) + length word + length (value_text value) + 3
  length-answer_line = simp length-append (omega arith)

  pub answer_line_appends : (w v₁ v₂ v₃ v₄ v₅ v : Writer) → Room (length (answer_line line word value)) w → Appends (decimal line) w v₁ → Appends (space ∷ []) v₁ v₂ → Appends word v₂ v₃ → Appends (space ∷ []) v₃ v₄ → Appends (value_text value) v₄ v₅ → Appends (line_feed ∷ []) v₅ v → Appends (answer_line line word value) w v
  answer_line_appends w v₁ v₂ v₃ v₄ v₅ v room a b c d e f =
      let all = length-answer_line in
      let one = decimal line in
      let two = one ++ (space ∷ []) in
      let three = two ++ word in
      let four = three ++ (space ∷ []) in
      let five = four ++ value_text value in
      let r₁ : Room (length one) w = omega arith in
      let r₂ : Room (length two) w = simp length-append (omega arith) in
      let r₃ : Room (length three) w = simp length-append (omega arith) in
      let r₄ : Room (length four) w = simp length-append (omega arith) in
      let r₅ : Room (length five) w = simp length-append (omega arith) in
      appends_more five (line_feed ∷ []) w v₅ v r₅
      (appends_more four (value_text value) w v₄ v₅ r₄
      (appends_more three (space ∷ []) w v₃ v₄ r₃
      (appends_more two word w v₂ v₃ r₂
      (appends_more one (space ∷ []) w v₁ v₂ r₁ a b) c) d) e) f

word_short : (a : Answer) → length (word_of a) ≤ 7
word_short a = grind arith

value_brief : (value : Option ℕ) → Below64 value → length (value_text value) ≤ 20
value_brief (Some n) fits = length-decimal-le 20 n (omega arith) (omega arith) fits
value_brief None fits = omega arith

fault_small : (f : Fault) → fault_number f < 10 ^ 2
fault_small f = grind arith

fault_digits : (f : Fault) → length (decimal (fault_number f)) ≤ 2
fault_digits f = length-decimal-le 2 (fault_number f) (omega arith) (fault_small f) (omega (arith, fault_small f))

module _ (line : ℕ) (few : line < 10 ^ 6) where
  digits_few : length (decimal line) ≤ 6
  digits_few = length-decimal-le 6 line (omega arith) few (omega arith)

  pub told-within : (a : Answer) → Below64 (value_of a) → length (told line a) ≤ 36
  told-within a fits =
      omega (arith, length-answer_line line (word_of a) (value_of a), digits_few, word_short a, value_brief (value_of a) fits)

  pub fault_line-within : (f : Fault) → length (fault_line line f) ≤ 36
  fault_line-within f =
      omega (arith, length-answer_line line (codes "fault") (Some (fault_number f)), digits_few, fault_digits f)

-- a fault of a line with one digit fits beside the heading
pub first_fault_within : (line : ℕ) → line < 10 → (f : Fault) → length heading + length (fault_line line f) ≤ 36
first_fault_within line one f =
    omega (arith, length-answer_line line (codes "fault") (Some (fault_number f)), length-decimal-le 1 line (omega arith) (omega arith) (omega arith), fault_digits f)
