-- The run of a script, line by line. Assumes nothing.
use Rattle.std.proofs.Common.{◌≡◌, ℕ, ◌+◌, ◌*◌, ◌^◌, ◌<◌, ◌≤◌, true, false, List, [], ◌∷◌, ◌++◌, length, take, drop, Some, None, Ok, Err, Option, Result, Bool, Bor, sym, refl, ap, ◌∙◌, subst, append-nil, add-zero, arith, length-append, take-append-drop}
use Rattle.std.specs.Option.{MatchOption, option_eq}
use Rattle.std.specs.Str.{bytes_eq}
use Rattle.std.proofs.lemmas.Bool.{both_ways, cond-true, cond-false}
use Rattle.stations.specs.declared.answer.Answer.{Answer}
use Rattle.stations.specs.declared.answer.Answer.TheVariants as answer
use Rattle.station.specs.Model.{Station}
use Rattle.script.specs.declared.fault.Fault.{Fault}
use Rattle.script.specs.declared.fault.Fault.TheVariants as fault
use Rattle.script.specs.declared.writer.Writer.{Writer}
use Rattle.script.specs.Requests.{request}
use Rattle.script.specs.Runs.{first_line, reply, and_then, answers, opening, from_opening, calls, body}
use Rattle.script.specs.Written.{overwritten, told, fault_line}
use Rattle.script.specs.Writers.{Room, Appends}
use Rattle.script.proofs.Buffers.{overwritten_more, appends_more, fault_line-within}

-- with `rest` written behind what is written now, all is written behind what was written at first
pub record Left (rest all : List ℕ) (w v : Writer) : Type 0 where
  pub bytes : overwritten v.len rest v.out.now ≡ overwritten w.len all w.out.now
  pub end : v.len + length rest ≡ w.len + length all
  pub room : length v.out.now ≡ length w.out.now
  pub same : v.out.ghost_name ≡ w.out.ghost_name

pub left_all : (all : List ℕ) (w : Writer) → Left all all w w
left_all all w = record { bytes = refl; end = refl; room = refl; same = refl }

pub left_more : (a rest all : List ℕ) (w v u : Writer) → Room (length a) v → Left (a ++ rest) all w v → Appends a v u → Left rest all w u
left_more a rest all w v u fits left more =
    record {
      bytes = ap (λ n. overwritten n rest u.out.now) more.end ∙ ap (overwritten (v.len + length a) rest) more.bytes ∙ overwritten_more v.len a rest v.out.now fits ∙ left.bytes;
      end = omega (arith, more.end, left.end, length-append a rest);
      room = more.room ∙ left.room;
      same = more.same ∙ left.same;
    }

pub left_none : (all : List ℕ) (w v : Writer) → Left [] all w v → Appends all w v
left_none all w v left =
    let as_it_was : overwritten v.len [] v.out.now ≡ v.out.now = ap (λ n. take v.len v.out.now ++ drop n v.out.now) (add-zero v.len) ∙ take-append-drop v.len v.out.now in
    record {
      bytes = sym as_it_was ∙ left.bytes;
      end = omega (arith, left.end);
      room = left.room;
      same = left.same;
    }

-- so far the run has come: i lines are answered, the third of the script and those after it, and `ls` are left
pub record Underway (known : ℕ) (all : List ℕ) (w : Writer) (i : ℕ) (s : Station) (ls : List (List ℕ)) (v : Writer) : Type 0 where
  pub left : Left (answers known (i + 3) s ls) all w v
  pub room : Room (36 * length ls) v
  pub few : i + length ls ≤ 65536

pub underway_at : (known : ℕ) (all : List ℕ) (w : Writer) (i : ℕ) (s : Station) (ls : List (List ℕ)) (v : Writer) (j : ℕ) → j ≡ i → Underway known all w i s ls v → Underway known all w j s ls v
underway_at known all w i s ls v j same h = subst (λ n. Underway known all w n s ls v) (sym same) h

-- a turn, by the first of the lines that are left
module _ (known : ℕ) (all : List ℕ) (w : Writer) (i : ℕ) (s : Station) (ls : List (List ℕ)) (v : Writer) (h : Underway known all w i s ls v) (line : List ℕ) (more : List (List ℕ)) (cut : ls ≡ line ∷ more) where
  now_left : (r : Result Answer Fault) (t : Station) → (r, t) ≡ reply known line s → Left (and_then (i + 3) r (answers known (i + 3 + 1) t more)) all w v
  now_left r t is =
      subst (λ l. Left l all w v)
      (ap (answers known (i + 3) s) cut ∙ ap (λ x. and_then (i + 3) x.0 (answers known (i + 3 + 1) x.1 more)) (sym is))
      h.left

  pub answered : (a : Answer) (t : Station) (u : Writer) (j : ℕ) → j ≡ i + 1 → (Ok a, t) ≡ reply known line s → length (told (i + 3) a) ≤ 36 → Appends (told (i + 3) a) v u → Underway known all w j t more u
  answered a t u j next is small written =
      let last = left_more (told (i + 3) a) (answers known (i + 3 + 1) t more) all w v u (omega (arith, h.room, ap length cut, small)) (now_left (Ok a) t is) written in
      record {
        left = subst (λ n. Left (answers known n t more) all w u) (omega (arith, next)) last;
        room = omega (arith, h.room, ap length cut, small, written.end, written.room);
        few = omega (arith, h.few, ap length cut, next);
      }

  pub fault_room : (f : Fault) → Room (length (fault_line (i + 3) f)) v
  fault_room f =
      let few : i + 3 < 10 ^ 6 = omega (arith, h.few, ap length cut) in
      omega (arith, h.room, ap length cut, fault_line-within (i + 3) few f)

  pub faulted : (f : Fault) (t : Station) (u : Writer) → (Err f, t) ≡ reply known line s → Appends (fault_line (i + 3) f) v u → Appends all w u
  faulted f t u is written =
      left_none all w u
      (left_more (fault_line (i + 3) f) [] all w v u (fault_room f) (subst (λ l. Left l all w v) (sym (append-nil (fault_line (i + 3) f))) (now_left (Err f) t is)) written)

pub all_answered : (known : ℕ) (all : List ℕ) (w : Writer) (i : ℕ) (s : Station) (ls : List (List ℕ)) (v : Writer) → Underway known all w i s ls v → ls ≡ [] → Appends all w v
all_answered known all w i s ls v h none = left_none all w v (subst (λ l. Left (answers known (i + 3) s l) all w v) none h.left)

-- the lines from the second on
pub called_open : (known : ℕ) (ls : List (List ℕ)) (line : List ℕ) (more : List (List ℕ)) → ls ≡ line ∷ more → (s : Station) (w v u : Writer) → Ok s ≡ opening (request line) → Room 36 w → length (told 2 answer.Ok) ≤ 36 → Appends (told 2 answer.Ok) w v → Appends (answers known 3 s more) v u → Appends (calls known ls) w u
called_open known ls line more cut s w v u is room small first rest =
    subst (λ l. Appends l w u)
    (ap (λ o. from_opening known o more) is ∙ sym (ap (calls known) cut))
    (appends_more (told 2 answer.Ok) (answers known 3 s more) w v u (omega arith) first rest)

-- what `next` gave, of the lines `ls`, and left
abbrev pub Taken : List (List ℕ) → Option (Bor (List ℕ)) → List (List ℕ) → Type 0
Taken ls r more = MatchOption r ((ls ≡ []) × (more ≡ [])) (λ x. ls ≡ x.now ∷ more)

abbrev pub is_line : Option (Bor (List ℕ)) → Bor (List ℕ) → Bool
is_line r y = option_eq (λ a b. bytes_eq a.now b.now) r (Some y)

module _ (known : ℕ) (ls more : List (List ℕ)) (y : Bor (List ℕ)) (is : y.now ≡ first_line) where
  pub body_played : (r : Option (Bor (List ℕ))) → Taken ls r more → true ≡ is_line r y → body known ls ≡ calls known more
  body_played (Some x) cut e = ap (body known) cut ∙ cond-true _ _ _ (sym (e ∙ ap (bytes_eq x.now) is))
  body_played None cut e = absurd (both_ways _ refl (sym e))

  pub body_not_played : (r : Option (Bor (List ℕ))) → Taken ls r more → 0 < length ls → false ≡ is_line r y → body known ls ≡ fault_line 1 fault.FirstLine
  body_not_played (Some x) cut some e = ap (body known) cut ∙ cond-false _ _ _ (sym (e ∙ ap (bytes_eq x.now) is))
  body_not_played None cut some e = absurd (omega (arith, ap length cut.0))
