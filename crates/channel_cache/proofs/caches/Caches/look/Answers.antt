use Rattle.std.proofs.Common.{not, nat_eq, ◌∙◌, ap, sym, arith, ℕ, List, [], ◌∷◌, length}
use Rattle.sg_history.specs.declared.entries.Entry.{Entry}
use Rattle.sg_history.specs.History.{past}
use Rattle.channel_cache.specs.inner.DocumentsRead.{documents_read}
use Rattle.channel_cache.specs.Listed.{listed, sequences_of}
use Rattle.channel_cache.specs.Stands.{has}
use Rattle.channel_cache.specs.Kept.{Cached, is_filled}
use Rattle.channel_cache.proofs.Cached.{listed_again, listed_stands}
use Rattle.channel_cache.proofs.Keeping.{filled_is}
use Rattle.channel_cache.proofs.caches.Caches.look.Goals as goal

pub documents_at-requires : goal.documents_at-requires
documents_at-requires c = λ s is.
    let both = listed_stands c.take_entries.new.log.entries (c.args.channel.now ∷ []) c.args.to (omega (arith, c.requires.within, ap length c.take_entries.ensures.log)) s
    (sym (ap (λ (l : List ℕ). has l s) (c.as_slice.ensures.value ∙ c.in_ok-found.ensures.sequences)) ∙ is) in
    (both.0, omega (arith, both.1, ap length c.ask_channel.ensures.log))

pub returns-clause-documents : goal.returns-clause-documents
returns-clause-documents c =
    c.from_vec.ensures
    ∙ c.in_ok-documents.ensures.documents
    ∙ ap (λ (l : List Entry). documents_read l c.as_slice.result.now) (c.ask_channel.ensures.log ∙ c.take_entries.ensures.log)
    ∙ listed_again c.args.log.now.entries (c.args.channel.now ∷ []) c.args.to c.requires.within c.as_slice.result.now
    (c.as_slice.ensures.value ∙ c.in_ok-found.ensures.sequences ∙ ap (λ (l : List Entry). sequences_of (listed (past l c.args.to) c.args.channel.now)) c.take_entries.ensures.log)

pub returns-clause-refilled : goal.returns-clause-refilled
returns-clause-refilled c =
    ap (λ (n : ℕ). not (nat_eq n 0)) c.in_ok-found.ensures.refills
    ∙ filled_is c.self.inside.lists c.args.channel.now c.args.to
    ∙ ap (λ (k : Cached). is_filled k.lists c.args.channel.now c.args.to) c.self.view_is
