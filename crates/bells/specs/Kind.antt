-- What rules need to know of a waker kind, and of it together with a bell kind. Assumes nothing.
use Rattle.std.specs.Prelude.{◌≡◌, ℕ, Bool, true}

-- A waker names the task `target`; `wakes` is what `will_wake` answers, yes only where both name one task.
pub record Waking (W : Type 0) : Type 0 where
  pub target : W → ℕ
  pub wakes : W → W → Bool
  pub same : (a b : W) → wakes a b ≡ true → target a ≡ target b

-- The bell knows the tasks below `known`.
pub record Kind (W : Type 0) : Type 0 where
  pub known : ℕ
  pub waking : Waking W

abbrev pub kind_of : {W : Type 0} → ℕ → Waking W → Kind W
kind_of known waking = record { known = known; waking = waking }
