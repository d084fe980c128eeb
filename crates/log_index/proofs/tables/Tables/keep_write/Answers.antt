use Rattle.std.proofs.Common.{◌≡◌, refl, ℕ, List, Some, if◌then◌else◌, subst}
use Rattle.std.specs.BTreeMap.{get_by_text}
use Rattle.std.specs.Str.{bytes_eq}
use Rattle.log_index.specs.declared.tables.Tables.{Tables}
use Rattle.log_index.proofs.Pushes.{Took, took_write, write_taken}
use Rattle.log_index.proofs.tables.Tables.keep_write.Goals as goal

pub returns-in-Ok-clause-ok : goal.returns-in-Ok-clause-ok
returns-in-Ok-clause-ok c = λ es e writes seq is.
    let new : Tables = record {
      alloc = c.args.self.now.alloc;
      count = c.args.seq;
      documents = c.put.new.map;
      revisions = c.put_revision.new.revisions;
      repeats = c.put_revision.new.repeats;
      marks = c.args.self.now.marks;
    } in
    let took : Took c.args.self.now new c.args.write.now c.args.seq =
    took_write c.args.self.now new c.args.write.now c.args.seq c.first_or-first.result c.in_ok-winning.field-0 c.args.before
    c.requires c.first_or-first.ensures c.in_ok-winning.ensures
    (subst (λ (d : List ℕ). (name : List ℕ) → get_by_text c.put.new.map name ≡ (if bytes_eq d name then Some (record { first = c.first_or-first.result; last = c.args.seq; winning = c.in_ok-winning.field-0 }) else get_by_text c.args.self.now.documents name)) c.as_str.ensures.value c.in_ok-put.ensures.ok)
    c.in-Ok.ensures.ok c.in-Ok.ensures.again (λ f s. refl) refl in
    write_taken c.args.self.now new es e c.args.write.now is writes (subst (λ n. Took c.args.self.now new c.args.write.now n) seq took)
