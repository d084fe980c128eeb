-- wires in memory
use Rattle.std.specs.Prelude.{ℕ, zero, suc, List, [], ◌∷◌, ◌++◌, drop, map}
use Rattle.sg_outside.specs.declared.sink.Gave.{Gave}
use Rattle.sg_outside.specs.declared.sink.Gave.TheVariants as gave
use Rattle.sg_outside.specs.declared.wire.Got.{Got}
use Rattle.sg_outside.specs.declared.wire.Got.TheVariants as got
use Rattle.sg_outside.specs.declared.mem_wire.Input.{Input}
use Rattle.sg_outside.specs.declared.mem_wire.Input.TheVariants as input
use Rattle.sg_outside.specs.Wire.{Traffic, no_line}

-- what receiving an input gives
abbrev pub got_of : Input → Got
got_of (input.Frame frame) = got.Frame frame
got_of input.Text = got.Text
got_of input.Idle = got.Idle

-- the results of so many calls: those of the script, and then the end
abbrev pub results : ℕ → List Got → List Got
results zero script = []
results (suc n) [] = got.End ∷ results n []
results (suc n) (result ∷ script) = result ∷ results n script

-- what a wire records that no line gave and that has a script of results, after so many of them
abbrev pub traffic : List Got → ℕ → List (List ℕ) → List Gave → Traffic
traffic script calls sent gave = record { got = results calls script; sent = sent; gave = gave; coming = drop calls script; line = no_line }

-- every sending succeeded
abbrev pub all_done : List (List ℕ) → List Gave
all_done sent = map (λ _. gave.Done) sent

-- the frames that were sent and what each sending answered, once a frame got this answer
abbrev pub sent_by : List (List ℕ) × List Gave → List ℕ → Gave → List (List ℕ) × List Gave
sent_by before frame gave.Done = (before.0 ++ frame ∷ [], before.1 ++ gave.Done ∷ [])
sent_by before frame gave.Failed = (before.0, before.1 ++ gave.Failed ∷ [])
sent_by before frame gave.Memory = before
