use Rattle.std.proofs.Common.{◌≡◌, ◌∙◌, ap, subst, sym, length, false}
use Rattle.doc_board.specs.declared.candidate.Candidate.{Candidate}
use Rattle.doc_board.specs.Candidates.{MayBeStored, doc_of, entry_of, is_stale, made_at}
use Rattle.doc_board.specs.State.{book_on, last_on}
use Rattle.doc_board.specs.Steps.{with_entry}
use Rattle.doc_board.specs.Storage.{book_with_unused, kept_at}
use Rattle.doc_board.proofs.OnStorage.{current_base}
use Rattle.doc_board.proofs.board.Board.store.Goals as goal

pub store_plain-requires-clause-entry : goal.store_plain-requires-clause-entry
store_plain-requires-clause-entry c = (subst (λ (k : Candidate). MayBeStored c.args.self.now c.args.number k) c.in-Plain.is c.requires.candidate).0

pub store_plain-requires-clause-plain : goal.store_plain-requires-clause-plain
store_plain-requires-clause-plain c = (subst (λ (k : Candidate). MayBeStored c.args.self.now c.args.number k) c.in-Plain.is c.requires.candidate).1

pub store_write-requires-clause-doc : goal.store_write-requires-clause-doc
store_write-requires-clause-doc c = c.requires.fits.doc ∙ ap (λ (k : Candidate). doc_of k) c.in-Write.is

pub store_write-requires-clause-entry : goal.store_write-requires-clause-entry
store_write-requires-clause-entry c = (subst (λ (k : Candidate). MayBeStored c.args.self.now c.args.number k) c.in-Write.is c.requires.candidate).0

pub store_write-requires-clause-body : goal.store_write-requires-clause-body
store_write-requires-clause-body c = (subst (λ (k : Candidate). MayBeStored c.args.self.now c.args.number k) c.in-Write.is c.requires.candidate).1

pub store_write-requires-clause-at : goal.store_write-requires-clause-at
store_write-requires-clause-at c = (subst (λ (k : Candidate). MayBeStored c.args.self.now c.args.number k) c.in-Write.is c.requires.candidate).2

pub store_write-requires-clause-base : goal.store_write-requires-clause-base
store_write-requires-clause-base c =
    current_base c.in-Write.base (last_on c.args.self.now c.in-Write.entry.doc) (subst (λ (k : Candidate). is_stale c.args.self.now k ≡ false) c.in-Write.is c.requires.current)

pub store_write-requires-clause-above : goal.store_write-requires-clause-above
store_write-requires-clause-above c = (subst (λ (k : Candidate). MayBeStored c.args.self.now c.args.number k) c.in-Write.is c.requires.candidate).3

pub store_write-requires-clause-extends : goal.store_write-requires-clause-extends
store_write-requires-clause-extends c =
    (subst (λ (k : Candidate). MayBeStored c.args.self.now c.args.number k) c.in-Write.is c.requires.candidate).4
    (current_base c.in-Write.base (last_on c.args.self.now c.in-Write.entry.doc) (subst (λ (k : Candidate). is_stale c.args.self.now k ≡ false) c.in-Write.is c.requires.current))

pub returns-in-Plain-clause-at : goal.returns-in-Plain-clause-at
returns-in-Plain-clause-at c = c.front-at.ensures.front ∙ sym (ap (λ (k : Candidate). made_at k (length c.args.self.now.log)) c.in-Plain.is)

pub returns-in-Plain-clause-stored : goal.returns-in-Plain-clause-stored
returns-in-Plain-clause-stored c = c.store_plain.ensures.stored ∙ sym (ap (λ (k : Candidate). kept_at c.args.self.now c.args.spent c.args.number (entry_of k)) c.in-Plain.is)

pub returns-in-Plain-clause-book : goal.returns-in-Plain-clause-book
returns-in-Plain-clause-book c =
    c.store_plain.ensures.book ∙ sym (ap (λ (k : Candidate). with_entry c.args.number (entry_of k) (book_with_unused c.args.spent (book_on c.args.self.now))) c.in-Plain.is)

pub returns-in-Write-clause-at : goal.returns-in-Write-clause-at
returns-in-Write-clause-at c = sym (ap (λ (k : Candidate). made_at k (length c.args.self.now.log)) c.in-Write.is)

pub returns-in-Write-clause-stored : goal.returns-in-Write-clause-stored
returns-in-Write-clause-stored c = c.store_write.ensures.stored ∙ sym (ap (λ (k : Candidate). kept_at c.args.self.now c.args.spent c.args.number (entry_of k)) c.in-Write.is)

pub returns-in-Write-clause-book : goal.returns-in-Write-clause-book
returns-in-Write-clause-book c =
    c.store_write.ensures.book ∙ sym (ap (λ (k : Candidate). with_entry c.args.number (entry_of k) (book_with_unused c.args.spent (book_on c.args.self.now))) c.in-Write.is)
