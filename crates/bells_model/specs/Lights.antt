-- A lamp's one task, by the laws of due tasks alone.
use Rattle.std.specs.Prelude.{◌≡◌, ℕ, zero, suc, ◌<◌, ◌≤◌, Bool, true, false, cond, refl}
use Rattle.std.proofs.Common.{sym, ◌∙◌, ⊎_elim, arith}
use Rattle.std.proofs.lemmas.Bool.{cases_lt, false≢true}
use Rattle.bells.specs.Due.{is_due, none_due, rung, collected, how_many}
use Rattle.bells.proofs.DueLaws.{is_due_none, rung_here, rung_other, rung_again, collected_none, collected-rung, how_many_none, how_many-rung}
use Rattle.bells_model.specs.Lamps.{shining}

pub shining_here : (lit : Bool) (task : ℕ) → task < 1 → is_due (shining lit) task ≡ lit
shining_here true zero h = rung_here 1 0 none_due h
shining_here false zero h = is_due_none 0
shining_here lit (suc n) h = absurd (omega arith)

pub shining_past : (lit : Bool) (task : ℕ) → 1 ≤ task → is_due (shining lit) task ≡ false
shining_past true task h = rung_other 1 0 task none_due (λ e. omega arith) ∙ is_due_none task
shining_past false task h = is_due_none task

pub shining_known : (lit : Bool) (task : ℕ) → is_due (shining lit) task ≡ true → task < 1
shining_known lit task h = ⊎_elim (λ l. l) (λ l. absurd (false≢true (sym (shining_past lit task l) ∙ h))) (cases_lt task 1)

pub shining-rung : (lit : Bool) (task : ℕ) → task < 1 → shining true ≡ rung 1 task (shining lit)
shining-rung true zero h = sym (rung_again 1 0 (rung 1 0 none_due) (rung_here 1 0 none_due h))
shining-rung false zero h = refl
shining-rung lit (suc n) h = absurd (omega arith)

pub shining-collected : (lit : Bool) (task : ℕ) → task < 1 → shining false ≡ collected task (shining lit)
shining-collected true zero h = sym (collected-rung 1 0 none_due (is_due_none 0))
shining-collected false zero h = sym (collected_none 0 none_due (is_due_none 0))
shining-collected lit (suc n) h = absurd (omega arith)

pub shining_many : (lit : Bool) → how_many 1 (shining lit) ≡ cond lit 1 0
shining_many true = let one : 0 < 1 = omega arith in omega (arith, how_many-rung 1 0 none_due one (is_due_none 0), how_many_none 1)
shining_many false = how_many_none 1
