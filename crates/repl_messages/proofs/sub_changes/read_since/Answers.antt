use Rattle.std.proofs.Common.{List, ℕ, subst}
use Rattle.std.specs.Option.{option_copied}
use Rattle.repl_messages.specs.SubChanges.{IsReading, IsSince}
use Rattle.repl_messages.proofs.OneAnswer.{reading-of, since-one}
use Rattle.repl_messages.proofs.sub_changes.read_since.Goals as goal

pub returns-in-Some-clause-read : goal.returns-in-Some-clause-read
returns-in-Some-clause-read c =
    let read = reading-of c.unquoted.result.now c.parse.result c.parse.ensures.ok c.parse.ensures.low_form.0 c.parse.ensures.bad_key.0 in
    rw c.in-Some.is (subst (λ (text : List ℕ). IsReading text c.parse.result) c.unquoted.ensures read)

pub returns-in-Some-clause-only : goal.returns-in-Some-clause-only
returns-in-Some-clause-only c =
    let read = reading-of c.unquoted.result.now c.parse.result c.parse.ensures.ok c.parse.ensures.low_form.0 c.parse.ensures.bad_key.0 in
    let is : IsSince (option_copied c.args.value) c.parse.result = rw c.in-Some.is (subst (λ (text : List ℕ). IsReading text c.parse.result) c.unquoted.ensures read) in
    λ since other. since-one (option_copied c.args.value) since c.parse.result other is

pub returns-in-None-clause-only : goal.returns-in-None-clause-only
returns-in-None-clause-only c = λ since other. rw c.in-None.is at other
