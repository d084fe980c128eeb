use Rattle.std.proofs.Common.{◌∙◌, ap, Bool, ℕ, Some, if◌then◌else◌, nat_eq}
use Rattle.std.specs.BTreeMap.{get}
use Rattle.std.specs.Cmp.{unsigned_tied}
use Rattle.std.specs.Ordering.{nat_cmp}
use Rattle.changes_feed.proofs.segment.add.Goals as goal

pub returns-clause-places : goal.returns-clause-places
returns-clause-places c = λ seq.
    c.in_ok-insert.ensures.updates.0 seq
    ∙ ap (λ (b : Bool). if b then Some c.len-place.result else get nat_cmp c.args.segment.now.places seq) (unsigned_tied c.args.first seq)
    ∙ ap (λ (n : ℕ). if nat_eq c.args.first seq then Some n else get nat_cmp c.args.segment.now.places seq) (c.len-place.ensures ∙ c.args.segment.now.documents.ok.0)
