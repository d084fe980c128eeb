use Rattle.std.proofs.Common.{◌≡◌, ◌∙◌, ap, sym, ◌&&◌, not, ℕ, List, None}
use Rattle.std.specs.Prelude.{String}
use Rattle.std.specs.Global.{Global}
use Rattle.std.specs.Str.{bytes_eq}
use Rattle.lru.specs.LruCache.{LruCache}
use Rattle.sg_history.specs.History.{among}
use Rattle.channel_cache.specs.Sequences.{is_kept, list_of}
use Rattle.channel_cache.specs.declared.sequences.Sequences.{Sequences}
use Rattle.channel_cache.proofs.AskedFor.{asks_taken, full_without, not_wanted}
use Rattle.channel_cache.proofs.Changing.{on_ok, on_three}
use Rattle.channel_cache.proofs.Names.{kept_among, without_kept, without_lists}
use Rattle.channel_cache.proofs.asking.take_one.Goals as goal

pub returns-in-None-clause-wanted : goal.returns-in-None-clause-wanted
returns-in-None-clause-wanted c = λ x.
    ap (λ (l : LruCache (String Global) Sequences). is_kept l.entries x) c.pop.ensures.entries
    ∙ without_kept c.args.wanted.now.entries c.as_str-name.result.now x c.count.ensures.apart
    ∙ ap (λ (n : List ℕ). is_kept c.args.wanted.now.entries x && not (bytes_eq n x)) c.as_str-name.ensures.value

pub returns-in-Some-clause-wanted : goal.returns-in-Some-clause-wanted
returns-in-Some-clause-wanted c = on_ok c.take_filled.result _ _ (λ keys x.
    ap (λ (l : LruCache (String Global) Sequences). is_kept l.entries x) c.pop.ensures.entries
    ∙ without_kept c.args.wanted.now.entries c.as_str-name.result.now x c.count.ensures.apart
    ∙ ap (λ (n : List ℕ). is_kept c.args.wanted.now.entries x && not (bytes_eq n x)) c.as_str-name.ensures.value) c.take_filled.ensures.keys

pub returns-in-None-clause-asks : goal.returns-in-None-clause-asks
returns-in-None-clause-asks c = λ es channels full asks.
    let old = c.args.wanted.now.entries in
    let new = c.pop.new.self.entries in
    let a = c.as_str-name.result.now in
    let names : (x : List ℕ) → is_kept new x ≡ (is_kept old x && not (bytes_eq a x)) = λ x. ap (λ (l : LruCache (String Global) Sequences). is_kept l.entries x) c.pop.ensures.entries ∙ without_kept old a x c.count.ensures.apart in
    let none : list_of old a ≡ None = sym c.pop.ensures.value ∙ c.in-None.is in
    let same : (x : List ℕ) → is_kept new x ≡ is_kept old x = λ x. names x ∙ sym (not_wanted a old none x) in (
      full_without es a old new names (λ x other. ap (λ (l : LruCache (String Global) Sequences). list_of l.entries x) c.pop.ensures.entries ∙ without_lists old a x other) full,
      record {
        kept = λ x s kept other. asks.kept x s kept (sym (same x) ∙ other);
        nothing = λ x s kept want. asks.nothing x s kept (sym (same x) ∙ want);
        within = λ x want. asks.within x (sym (same x) ∙ want);
        of = asks.of;
        all = λ x s h other listed. asks.all x s h (sym (same x) ∙ other) listed;
      },
    )

pub returns-in-Some-clause-asks : goal.returns-in-Some-clause-asks
returns-in-Some-clause-asks c = on_three c.take_filled.result _ _ _ _ (λ keys lists found es channels full asks.
    let old = c.args.wanted.now.entries in
    let new = c.pop.new.self.entries in
    let a = c.as_str-name.result.now in
    let names : (x : List ℕ) → is_kept new x ≡ (is_kept old x && not (bytes_eq a x)) = λ x. ap (λ (l : LruCache (String Global) Sequences). is_kept l.entries x) c.pop.ensures.entries ∙ without_kept old a x c.count.ensures.apart in (
      full_without es a old new names (λ x other. ap (λ (l : LruCache (String Global) Sequences). list_of l.entries x) c.pop.ensures.entries ∙ without_lists old a x other) full,
      asks_taken es a c.args.lists.now.entries c.take_filled.new.lists.entries old new c.args.found.now.items c.take_filled.new.found.items channels c.in-Some.filled (sym c.pop.ensures.value ∙ c.in-Some.is)
          (λ x. kept_among c.take_filled.new.lists.entries x ∙ ap (λ (l : List (List ℕ)). among l x) keys ∙ sym (kept_among c.args.lists.now.entries x)) lists names found full asks,
    )) c.take_filled.ensures.keys c.take_filled.ensures.lists c.take_filled.ensures.found
