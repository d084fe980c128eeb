use Rattle.std.proofs.Common.{refl}
use Rattle.repl_messages.proofs.NoNul.{doc_plain, rev_read, norev_read, error_read, checkpoint_read, code_fits, one_closable, none_closable}
use Rattle.repl_messages.specs.Errors.{error_code}
use Rattle.repl_messages.proofs.laws.payloads_read_again.Goals as goal

pub returns-clause-changes : goal.returns-clause-changes
returns-clause-changes c = λ rows version. record { closable = one_closable; once = refl }

pub returns-clause-rev : goal.returns-clause-rev
returns-clause-rev c = λ row ancestors body names revs.
    rev_read row ancestors body (doc_plain row.doc names.doc) (c.plain_texts.ensures.revisions row.rev names.rev) (c.plain_texts.ensures.keys row.key names.key) (c.plain_texts.ensures.revision_lists ancestors revs)

pub returns-clause-norev : goal.returns-clause-norev
returns-clause-norev c = λ row names.
    norev_read row (doc_plain row.doc names.doc) (c.plain_texts.ensures.revisions row.rev names.rev) (c.plain_texts.ensures.keys row.key names.key)

pub returns-clause-ok : goal.returns-clause-ok
returns-clause-ok c = record { closable = none_closable; once = refl }

pub returns-clause-error : goal.returns-clause-error
returns-clause-error c = λ error. error_read error (c.plain_texts.ensures.decimals (error_code error) (code_fits error))

pub returns-clause-answers : goal.returns-clause-answers
returns-clause-answers c = λ answers proposed. record { closable = none_closable; once = refl }

pub returns-clause-checkpoint : goal.returns-clause-checkpoint
returns-clause-checkpoint c = λ number body low. checkpoint_read number body (c.plain_texts.ensures.decimals number low)
