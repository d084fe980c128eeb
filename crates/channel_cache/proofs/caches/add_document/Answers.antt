use Rattle.std.proofs.Common.{◌≡◌, ◌-◌, ◌++◌, ◌∷◌, [], ◌∙◌, ap, sym, ℕ, List, Option}
use Rattle.std.specs.Prelude.{slice_get}
use Rattle.std.specs.Option.{option_copied}
use Rattle.std.proofs.lemmas.List.{append-nil}
use Rattle.sg_history.specs.declared.entries.Entry.{Entry}
use Rattle.sg_history.specs.declared.entries.Write.{Write}
use Rattle.channel_cache.specs.inner.DocumentsRead.{document_by, document_read}
use Rattle.channel_cache.specs.declared.found.DocSeq.{DocSeq}
use Rattle.channel_cache.proofs.caches.add_document.Goals as goal

pub returns-in-None-clause-document : goal.returns-in-None-clause-document
returns-in-None-clause-document c =
    let none : [] ≡ document_read (slice_get c.args.log.now.entries (c.args.seq - 1)) c.args.seq =
    ap (λ (o : Option Write). document_by o c.args.seq) (sym (ap option_copied c.in-None.is) ∙ c.as_write.ensures.write)
    ∙ ap (λ (o : Option Entry). document_read o c.args.seq) (sym c.entry.ensures.entry) in
    sym (append-nil c.args.documents.now.items) ∙ ap (λ (l : List DocSeq). c.args.documents.now.items ++ l) none

pub returns-in_ok-push-in-Some-clause-document : goal.returns-in_ok-push-in-Some-clause-document
returns-in_ok-push-in-Some-clause-document c =
    let one : record { doc = c.in_ok-doc-in-Some.doc; seq = c.args.seq } ∷ [] ≡ document_read (slice_get c.args.log.now.entries (c.args.seq - 1)) c.args.seq =
    ap (λ (doc : List ℕ). record { doc = doc; seq = c.args.seq } ∷ []) c.in_ok-doc-in-Some.ensures
    ∙ ap (λ (o : Option Write). document_by o c.args.seq) (sym (ap option_copied c.in-Some.is) ∙ c.as_write.ensures.write)
    ∙ ap (λ (o : Option Entry). document_read o c.args.seq) (sym c.entry.ensures.entry) in
    c.in_ok-push-in-Some.ensures.items ∙ ap (λ (l : List DocSeq). c.args.documents.now.items ++ l) one
