-- A result with parts, and the answer that it is told as.
use Rattle.std.proofs.Common.{◌≡◌, Ok, Err, Result, MatchResult, ap, ◌∙◌}
use Rattle.bells.specs.declared.refusal.Refusal.{Refusal}
use Rattle.stations.specs.declared.answer.Answer.{Answer}
use Rattle.stations.specs.declared.answer.Answer.TheVariants as answer
use Rattle.stations.specs.Steps.{answered, tell}

from_matched : {A : Type 0} (say : A → Answer) (r : Result A Refusal) (a : Answer) → MatchResult r (λ v. a ≡ say v) (λ e. a ≡ answer.Refused e) → a ≡ answered say r
from_matched say (Ok v) a h = h
from_matched say (Err e) a h = h

pub told : {A P S : Type 0} (say : A → Answer) (place : P → S) {a : Answer} {r : Result A Refusal} {x : P} {y : Result A Refusal × P} → MatchResult r (λ v. a ≡ say v) (λ e. a ≡ answer.Refused e) → (r, x) ≡ y → (a, place x) ≡ tell say place y
told say place {a = a} {r = r} {x = x} h q = ap (λ b. (b, place x)) (from_matched say r a h) ∙ ap (tell say place) q
