-- What the run of a script writes. Assumes nothing.
use Rattle.std.specs.Prelude.{ℕ, ◌+◌, ◌*◌, Bool, cond, ◌&&◌, List, [], ◌∷◌, ◌++◌, length, Some, None, Ok, Err, codes, Option, Result, nat_le, nat_lt}
use Rattle.std.specs.Str.{bytes_eq}
use Rattle.stations.specs.declared.answer.Answer.{Answer}
use Rattle.stations.specs.declared.answer.Answer.TheVariants as answer
use Rattle.station.specs.declared.call.Call.{Call}
use Rattle.station.specs.declared.call.Call.TheVariants as call
use Rattle.bells.specs.Due.{Due}
use Rattle.station.specs.declared.whole.Station.{Station as Parts}
use Rattle.station.specs.Model.{Station}
use Rattle.station.specs.Parts.{station_of}
use Rattle.station.specs.Rules.{opened}
use Rattle.station.specs.Steps.{step}
use Rattle.script.specs.declared.fault.Fault.{Fault}
use Rattle.script.specs.declared.fault.Fault.TheVariants as fault
use Rattle.script.specs.declared.name.Name.{Name}
use Rattle.script.specs.declared.name.Name.TheVariants as name
use Rattle.script.specs.declared.request.Request.{Request}
use Rattle.script.specs.Bytes.{lines, ended}
use Rattle.script.specs.Requests.{request}
use Rattle.script.specs.Written.{heading, told, fault_line, overwritten}

-- a script is run only if it has at most 65,536 bytes, ends with a line feed, and the buffer has 36 bytes for each of its lines
abbrev pub fits : List ℕ → ℕ → Bool
fits script room = nat_le (length script) 65536 && (ended script && nat_le (36 * length (lines script)) room)

-- the first line of a script
abbrev pub first_line : List ℕ
first_line = codes "call place task value"

-- the call that is asked for, of a station that is open; `open` itself is none
abbrev pub call_by : Name → Option Call
call_by name.Open = None
call_by name.Close = Some call.Close
call_by name.Phase = Some call.Phase
call_by name.IsClosed = Some call.IsClosed
call_by name.Registered = Some call.Registered
call_by name.Arrived = Some call.Arrived
call_by name.Unarrived = Some call.Unarrived
call_by name.Generation = Some call.Generation
call_by name.Tally = Some call.Tally

abbrev pub call_of : Request → Option Call
call_of q = call_by q.name

-- what a line after the first two is answered, and the station after it; `known` is how many tasks the bell knows
abbrev pub performed : ℕ → Option Call → Station → Result Answer Fault × Station
performed known None s = (Err fault.OpenOrder, s)
performed known (Some c) s = (Ok (step known c s).0, (step known c s).1)

abbrev pub replied : ℕ → Result Request Fault → Station → Result Answer Fault × Station
replied known (Ok q) s = performed known (call_of q) s
replied known (Err f) s = (Err f, s)

abbrev pub reply : ℕ → List ℕ → Station → Result Answer Fault × Station
reply known line s = replied known (request line) s

-- the line that tells a reply, and then what follows it; a fault is the end
abbrev pub and_then : ℕ → Result Answer Fault → List ℕ → List ℕ
and_then n (Ok a) rest = told n a ++ rest
and_then n (Err f) rest = fault_line n f

-- the answers to lines, of which the first has the number n
abbrev pub answers : ℕ → ℕ → Station → List (List ℕ) → List ℕ
answers known n s [] = []
answers known n s (line ∷ more) = and_then n (reply known line s).0 (answers known (n + 1) (reply known line s).1 more)

-- the second line opens the station: n in its place field, the phase in its value field, and generation 0
abbrev pub opened_by : Request → Option Call → Result Station Fault
opened_by q None = Ok (opened q.place q.value 0)
opened_by q (Some c) = Err fault.OpenOrder

abbrev pub opening : Result Request Fault → Result Station Fault
opening (Ok q) = opened_by q (call_of q)
opening (Err f) = Err f

-- the station that the code opens, as its parts
abbrev pub opened_of : {B : Type 0} → (B → Due) → Result (Parts B) Fault → Result Station Fault
opened_of meaning (Ok s) = Ok (station_of meaning s)
opened_of meaning (Err f) = Err f

abbrev pub from_opening : ℕ → Result Station Fault → List (List ℕ) → List ℕ
from_opening known (Ok s) more = told 2 answer.Ok ++ answers known 3 s more
from_opening known (Err f) more = fault_line 2 f

abbrev pub calls : ℕ → List (List ℕ) → List ℕ
calls known [] = []
calls known (line ∷ more) = from_opening known (opening (request line)) more

abbrev pub body : ℕ → List (List ℕ) → List ℕ
body known [] = []
body known (first ∷ more) = cond (bytes_eq first first_line) (calls known more) (fault_line 1 fault.FirstLine)

-- all that is written; nothing, where the script is not run
abbrev pub output : ℕ → List ℕ → ℕ → List ℕ
output known script room = cond (fits script room) (heading ++ body known (lines script)) []

-- how much is written, and the buffer then: the rest of it is as it was
abbrev pub leaves : List ℕ → List ℕ → ℕ × List ℕ
leaves text out = (length text, overwritten 0 text out)

abbrev pub ran : ℕ → List ℕ → List ℕ → ℕ × List ℕ
ran known script out = leaves (output known script (length out)) out

-- what a program prints: where the script is not run, the heading and fault 14 of line 0
abbrev pub report : ℕ → List ℕ → ℕ → List ℕ
report known script room =
    cond (fits script room) (output known script room) (cond (nat_lt room 36) [] (heading ++ fault_line 0 fault.Unfit))

abbrev pub reported : ℕ → List ℕ → List ℕ → ℕ × List ℕ
reported known script out = leaves (report known script (length out)) out
