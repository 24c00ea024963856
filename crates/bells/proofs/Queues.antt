-- What is due and what stands in the line of a queue agree, and go on to agree after a ring and after a collection.
use Rattle.std.proofs.Common.{◌≡◌, ℕ, ◌+◌, ◌<◌, Bool, true, false, not, ◌&&◌, ◌||◌, eqb, ltb, List, [], ◌∷◌, ◌++◌, length, sym, refl, ap, ◌∙◌, arith}
use Rattle.std.proofs.lemmas.List.{length_push}
use Rattle.std.proofs.lemmas.Bool.{lt-ltb}
use Rattle.bells.specs.Due.{Due, is_due, none_due, rung, collected, how_many, flagged}
use Rattle.bells.specs.declared.queue.Queue.{Queue}
use Rattle.bells.specs.Orders.{among, once, without}
use Rattle.bells.proofs.DueLaws.{is_due_none, is_due-rung, is_due-collected, how_many_none, how_many_le, how_many-rung, how_many-collected}
use Rattle.bells.specs.Flags.{flagged_within}
use Rattle.bells.proofs.OrderLaws.{among-push, once-push, among-without, once-without, length-without}

pub record Agree (due : Due) (ts : List ℕ) : Type 0 where
  pub matched : (t : ℕ) → is_due due t ≡ among ts t
  pub single : once ts ≡ true
  pub counted : how_many 1024 due ≡ length ts

pub none_agree : Agree none_due []
none_agree = record { matched = is_due_none; single = refl; counted = how_many_none 1024 }

and_true : (b c : Bool) → c ≡ true → (b && c) ≡ b
and_true true c h = h
and_true false c h = refl

module _ {due : Due} {ts : List ℕ} (agree : Agree due ts) (task : ℕ) where
  -- a known task that is not due has room
  pub room : task < 1024 → is_due due task ≡ false → length ts < 1024
  room l f = omega (arith, how_many-rung 1024 task due l f, how_many_le 1024 (rung 1024 task due), agree.counted)

  pub rung_agrees : task < 1024 → is_due due task ≡ false → Agree (rung 1024 task due) (ts ++ task ∷ [])
  rung_agrees l f =
      record {
        matched = λ t.
            is_due-rung 1024 task t due
            ∙ (ap (λ b. b || is_due due t) (and_true (eqb t task) (ltb task 1024) (lt-ltb task 1024 l))
            ∙ (ap (λ b. eqb t task || b) (agree.matched t) ∙ sym (among-push ts task t)));
        single = once-push ts task agree.single (sym (agree.matched task) ∙ f);
        counted = how_many-rung 1024 task due l f ∙ (ap (λ n. n + 1) agree.counted ∙ sym (length_push ts task));
      }

  pub collected_agrees : task < 1024 → is_due due task ≡ true → Agree (collected task due) (without task ts)
  collected_agrees l h =
      let fewer = how_many-collected 1024 task due l h in
      let shorter = length-without task ts agree.single (sym (agree.matched task) ∙ h) in
      record {
        matched = λ t.
            is_due-collected task t due ∙ (ap (λ b. not (eqb t task) && b) (agree.matched t) ∙ sym (among-without task ts t));
        single = once-without task ts agree.single;
        counted = omega (arith, fewer, shorter, agree.counted);
      }

pub agree_in : (q : Queue) → Agree (flagged q.flags.raised) q.line.items
agree_in q = record { matched = q.matched; single = q.single; counted = q.counted }

pub within_in : (q : Queue) (task : ℕ) → is_due (flagged q.flags.raised) task ≡ true → task < 1024
within_in q task = flagged_within q.flags.raised 1024 task q.flags.sized
