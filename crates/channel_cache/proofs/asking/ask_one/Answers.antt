use Rattle.std.proofs.Common.{◌∙◌, ap, sym, arith, Bool, ◌&&◌, ◌||◌, not, ℕ, List, Option, if◌then◌else◌}
use Rattle.std.specs.Prelude.{is_some, String}
use Rattle.std.specs.Global.{Global}
use Rattle.lru.specs.LruCache.{LruCache}
use Rattle.std.specs.Str.{bytes_eq}
use Rattle.sg_history.specs.History.{among, past}
use Rattle.channel_cache.specs.Asked.{asked_after}
use Rattle.channel_cache.specs.inner.Asking.{names_of}
use Rattle.channel_cache.specs.inner.Counting.{counts_at}
use Rattle.channel_cache.specs.Sequences.{holds_in, holds_of, is_kept}
use Rattle.channel_cache.specs.Stands.{has}
use Rattle.channel_cache.specs.declared.sequences.Sequences.{Sequences}
use Rattle.channel_cache.proofs.AskedFor.{asks_kept, asks_wanted}
use Rattle.channel_cache.proofs.Names.{kept_among}
use Rattle.channel_cache.proofs.Past.{index_counts}
use Rattle.channel_cache.proofs.asking.ask_one.Goals as goal

pub returns-then-promote-clause-refills : goal.returns-then-promote-clause-refills
returns-then-promote-clause-refills c =
    sym (ap (λ (b : Bool). if b then 0 else 1) (sym (kept_among c.args.lists.now.entries c.args.channel.now) ∙ ap (is_kept c.args.lists.now.entries) (sym c.as_str-name.ensures.value) ∙ sym c.promote.ensures.kept ∙ c.if-promote.true))

pub returns-then-promote-clause-names : goal.returns-then-promote-clause-names
returns-then-promote-clause-names c =
    c.add_counted.ensures.keys
    ∙ c.promote.ensures.names c.if-promote.true
    ∙ ap (λ (n : List ℕ). asked_after c.args.lists.now.cap n (names_of c.args.lists.now.entries)) c.as_str-name.ensures.value

pub returns-then-promote-clause-asks : goal.returns-then-promote-clause-asks
returns-then-promote-clause-asks c = λ entries earlier indexed asks.
    let a = c.args.channel.now in
    let old = c.args.lists.now.entries in
    let mid = c.promote.new.lists.entries in
    let new = c.add_counted.new.lists.entries in
    let counts = counts_at c.args.index.now c.args.to in
    asks_kept (past entries c.args.to) counts (index_counts c.args.index.now entries c.args.to indexed) a old new c.args.wanted.now.entries c.args.found.now.items c.add_counted.new.found.items earlier
    (λ x. kept_among new x ∙ ap (λ (l : List (List ℕ)). among l x) c.add_counted.ensures.keys ∙ sym (kept_among mid x) ∙ ap is_some (c.promote.ensures.lists x))
    (ap (is_kept old) (sym c.as_str-name.ensures.value) ∙ sym c.promote.ensures.kept ∙ c.if-promote.true)
    (λ x s. c.in_ok-add_counted.ensures.lists x s
    ∙ ap (λ (o : Option Sequences). holds_in o s && (not (bytes_eq c.as_str-name.result.now x) || counts s)) (c.promote.ensures.lists x)
    ∙ ap (λ (n : List ℕ). holds_of old x s && (not (bytes_eq n x) || counts s)) c.as_str-name.ensures.value)
    (λ s. c.in_ok-add_counted.ensures.found s ∙ ap (λ (n : List ℕ). has c.args.found.now.items s || holds_of new n s) c.as_str-name.ensures.value)
    asks

pub returns-clause-refills : goal.returns-clause-refills
returns-clause-refills c =
    sym (ap (λ (b : Bool). if b then 0 else 1) (sym (kept_among c.args.lists.now.entries c.args.channel.now) ∙ ap (is_kept c.args.lists.now.entries) (sym c.as_str-name.ensures.value) ∙ sym c.promote.ensures.kept ∙ c.if-promote.false))

pub returns-clause-asks : goal.returns-clause-asks
returns-clause-asks c = λ entries earlier indexed asks.
    let a = c.args.channel.now in
    let old = c.args.lists.now.entries in
    let new = c.put_new.new.lists.entries in
    let same = c.promote.ensures.same c.if-promote.false in
    asks_wanted (past entries c.args.to) a old new c.args.wanted.now.entries c.want.new.wanted.entries c.args.found.now.items earlier
    (λ x kept. ap (λ (l : LruCache (String Global) Sequences). bytes_eq a x || is_kept l.entries x) (sym same) ∙ c.in_ok-put_new.ensures.kept x kept)
    (λ x s kept. c.in_ok-put_new.ensures.holds x s kept ∙ ap (λ (l : LruCache (String Global) Sequences). holds_of l.entries x s && not (bytes_eq a x)) same)
    c.in_ok-want.ensures.kept
    asks

pub returns-clause-idle : goal.returns-clause-idle
returns-clause-idle c = λ none. absurd (omega (arith, none))
