-- A history of grants may go to another thread.
use denote.Param.Send.{IsSend, sendable}
use Rattle.grant_history.proofs.ledger.Ledger.TheSendSync as ledger
use Rattle.grant_history.specs.contracts.history.GrantHistory
use Rattle.log_index.proofs.Crossing.{index_send}

pub history_send : IsSend GrantHistory.the_row
history_send = search (index_send, ledger.the_field_send, sendable) depth 30
