-- The names of calls, and what each call wants of its other fields. Assumes nothing.
use Rattle.std.specs.Prelude.{ℕ, ◌-◌, ◌^◌, List, [], ◌∷◌, Some, None, codes, Option}
use Rattle.std.specs.List.{find}
use Rattle.std.specs.Str.{bytes_eq}
use Rattle.script.specs.declared.name.Name.{Name}
use Rattle.script.specs.declared.name.Name.TheVariants as name
use Rattle.script.specs.declared.name.Wants.{Wants}

abbrev pub text_of : Name → List ℕ
text_of name.Open = codes "open"
text_of name.Close = codes "close"
text_of name.Phase = codes "phase"
text_of name.IsClosed = codes "is_closed"
text_of name.Registered = codes "registered"
text_of name.Arrived = codes "arrived"
text_of name.Unarrived = codes "unarrived"
text_of name.Generation = codes "generation"
text_of name.Tally = codes "tally"

abbrev pub names : List Name
names =
    name.Open ∷ name.Close ∷ name.Phase ∷ name.IsClosed ∷ name.Registered ∷ name.Arrived ∷ name.Unarrived ∷ name.Generation ∷ name.Tally ∷ []

-- the call that is named so
abbrev pub called : List ℕ → Option Name
called text = find (λ n. bytes_eq (text_of n) text) names

-- of a field that the call uses, the largest number that it may hold; the others are to be dashes
abbrev pub wanting : Option ℕ → Option ℕ → Option ℕ → Wants
wanting place task value = record { place = place; task = task; value = value }

abbrev pub wants_of : Name → Wants
wants_of name.Open = wanting (Some (2 ^ 32 - 1)) None (Some (2 ^ 64 - 1))
wants_of name.Close = wanting None None None
wants_of name.Phase = wanting None None None
wants_of name.IsClosed = wanting None None None
wants_of name.Registered = wanting None None None
wants_of name.Arrived = wanting None None None
wants_of name.Unarrived = wanting None None None
wants_of name.Generation = wanting None None None
wants_of name.Tally = wanting None None None
