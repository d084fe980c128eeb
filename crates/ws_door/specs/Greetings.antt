-- what is written in answer to the head of a request
use Rattle.std.specs.Prelude.{◌≡◌, ℕ, List, [], ◌++◌, Option, Some, None, Result, Ok, Err, codes}
use Rattle.sg_outside.specs.declared.sink.Gave.{Gave}
use Rattle.sg_outside.specs.declared.sink.Gave.TheVariants as gave
use Rattle.sg_outside.specs.Wire.{LinkRecord}
use Rattle.sg_lines.specs.Link.{Writes}
use Rattle.gateway_config.specs.declared.config.Config.{Config}
use Rattle.ws_door.specs.declared.answer.Refused.{Refused}
use Rattle.ws_door.specs.declared.answer.Refused.TheVariants as refused
use Rattle.ws_door.specs.declared.answer.Upgrade.{Upgrade}
use Rattle.ws_door.specs.declared.greeting.GreetFault.{GreetFault}
use Rattle.ws_door.specs.declared.greeting.GreetFault.TheVariants as greeting
use Rattle.ws_door.specs.Upgrades.{IsUpgradeAnswer}

-- the lines that end a refusal
abbrev pub closing : List ℕ
closing = codes "Content-Length: 0\r\nConnection: close\r\n\r\n"

-- the text of a refusal; none where memory ran out
abbrev pub refusal_text : Refused → List ℕ
refusal_text refused.Bad400 = codes "HTTP/1.1 400 Bad Request\r\n" ++ closing
refusal_text refused.Path404 = codes "HTTP/1.1 404 Not Found\r\n" ++ closing
refusal_text refused.Protocol426 = codes "HTTP/1.1 426 Upgrade Required\r\n" ++ closing
refusal_text refused.NoCookie401 = codes "HTTP/1.1 401 Unauthorized\r\nX-Rule: no cookie\r\n" ++ closing
refusal_text refused.UnknownCookie401 = codes "HTTP/1.1 401 Unauthorized\r\nX-Rule: unknown cookie\r\n" ++ closing
refusal_text refused.Memory = []

-- the text of an answer
abbrev pub answer_text : Result Upgrade Refused → List ℕ
answer_text (Ok upgrade) = upgrade.reply
answer_text (Err why) = refusal_text why

-- what an answer comes to, by what its write answered
abbrev pub greeted : Result Upgrade Refused → Gave → Result Upgrade GreetFault
greeted (Ok upgrade) gave.Done = Ok upgrade
greeted (Err why) gave.Done = Err (greeting.Refused why)
greeted answer gave.Failed = Err greeting.LinkFault
greeted answer gave.Memory = Err greeting.Memory

-- an upgrade and a refusal are the answer to these bytes
abbrev pub AnswersHead : List ℕ → Config → Result Upgrade GreetFault → Type 0
AnswersHead bytes config (Ok upgrade) = IsUpgradeAnswer bytes config (Ok upgrade)
AnswersHead bytes config (Err (greeting.Refused why)) = IsUpgradeAnswer bytes config (Err why)
AnswersHead bytes config (Err greeting.LinkFault) = Unit {0}
AnswersHead bytes config (Err greeting.Memory) = Unit {0}

-- the text of the answer to these bytes was written in one write, at a fault a beginning of it; out of memory nothing was
abbrev pub Greets : List ℕ → Config → LinkRecord → Result Upgrade GreetFault → LinkRecord → Type 0
Greets bytes config before (Ok upgrade) after = IsUpgradeAnswer bytes config (Ok upgrade) × Writes before upgrade.reply gave.Done after
Greets bytes config before (Err (greeting.Refused why)) after = IsUpgradeAnswer bytes config (Err why) × Writes before (refusal_text why) gave.Done after
Greets bytes config before (Err greeting.LinkFault) after = (answer : Result Upgrade Refused) × IsUpgradeAnswer bytes config answer × Writes before (answer_text answer) gave.Failed after
Greets bytes config before (Err greeting.Memory) after = after ≡ before

-- the same where the link records
abbrev pub GreetsIfRecorded : List ℕ → Config → Option LinkRecord → Result Upgrade GreetFault → Option LinkRecord → Type 0
GreetsIfRecorded bytes config None answer after = after ≡ None
GreetsIfRecorded bytes config (Some before) answer after = (link : LinkRecord) × (after ≡ Some link) × Greets bytes config before answer link
