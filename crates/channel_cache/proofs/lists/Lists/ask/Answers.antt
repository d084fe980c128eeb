use Rattle.std.proofs.Common.{◌≡◌, ◌∙◌, ap, subst, arith, Result, Ok}
use Rattle.std.specs.Prelude.{IfOk, OnOk, String}
use Rattle.std.specs.Global.{Global}
use Rattle.lru.specs.LruCache.{LruCache}
use Rattle.channel_cache.specs.Kept.{KeptLists}
use Rattle.channel_cache.specs.Sequences.{Lists}
use Rattle.channel_cache.specs.declared.sequences.Sequences.{Sequences}
use Rattle.channel_cache.proofs.Keeping.{are_as_before, lists_before, none_stands, reads_here, refills_here, stands_asked, were_asked}
use Rattle.channel_cache.proofs.lists.Lists.ask.Goals as goal

-- what holds of an answer that is Ok
of_ok : {A E : Type 0} (r : Result A E) (x : A) (P : A → Type 0) → r ≡ Ok x → IfOk r P → P x
of_ok r x P is h = subst (λ (s : Result _ _). IfOk s P) is h

on_ok_is : {A E : Type 0} (r : Result A E) (x : A) (P : Type 0) → r ≡ Ok x → OnOk r P → P
on_ok_is r x P is h = subst (λ (s : Result _ _). OnOk s P) is h

abbrev entries_of : LruCache (String Global) Sequences → Lists
entries_of l = l.entries

pub ask_from-found-requires-clause-lists : goal.ask_from-found-requires-clause-lists
ask_from-found-requires-clause-lists c =
    let l = c.self.inside in
    lists_before c.args.log.now.entries l.place c.args.to l.kept.cap l.kept.entries c.args.self.now c.self.view_is c.requires.stands

pub returns-in-Ok-clause-refills : goal.returns-in-Ok-clause-refills
returns-in-Ok-clause-refills c =
    let l = c.self.inside in
    of_ok c.ask_from-found.result c.in-Ok.found _ c.in-Ok.is c.ask_from-found.ensures.refills
    ∙ refills_here c.args.log.now.entries l.place c.args.to l.kept.cap l.kept.entries c.args.self.now c.self.view_is c.args.channels.now

pub returns-in-Ok-clause-asked : goal.returns-in-Ok-clause-asked
returns-in-Ok-clause-asked c =
    let l = c.self.inside in
    were_asked c.args.log.now.entries l.place c.args.to l.kept.cap l.kept.entries c.args.self.now c.self.view_is c.later-self-inside.result c.ask_from-found.new.lists.cap c.ask_from-found.new.lists.entries c.later-self-inside.ensures c.args.channels.now
    (on_ok_is c.ask_from-found.result c.in-Ok.found _ c.in-Ok.is c.ask_from-found.ensures.names)

pub returns-in-Ok-clause-behind : goal.returns-in-Ok-clause-behind
returns-in-Ok-clause-behind c =
    let l = c.self.inside in
    are_as_before c.args.log.now.entries l.place c.args.to l.kept.cap l.kept.entries c.args.self.now c.self.view_is c.later-self-inside.result c.ask_from-found.new.lists.cap c.ask_from-found.new.lists.entries c.later-self-inside.ensures
    (λ behind. ap entries_of (on_ok_is c.ask_from-found.result c.in-Ok.found _ c.in-Ok.is c.ask_from-found.ensures.behind behind))

pub returns-in-Ok-clause-stands : goal.returns-in-Ok-clause-stands
returns-in-Ok-clause-stands c =
    let l = c.self.inside in
    stands_asked c.args.log.now.entries l.place c.args.to l.kept.cap l.kept.entries c.args.self.now c.self.view_is c.later-self-inside.result c.ask_from-found.new.lists.cap c.ask_from-found.new.lists.entries c.later-self-inside.ensures
    c.requires.stands c.requires.within c.count.ensures.apart
    (on_ok_is c.ask_from-found.result c.in-Ok.found _ c.in-Ok.is c.ask_from-found.ensures.lists)
    (λ behind. ap entries_of (on_ok_is c.ask_from-found.result c.in-Ok.found _ c.in-Ok.is c.ask_from-found.ensures.behind behind))

pub returns-in-Err-clause-stands : goal.returns-in-Err-clause-stands
returns-in-Err-clause-stands c =
    none_stands c.self.inside.place c.clear.new.self.cap c.clear.new.self.entries c.args.log.now.entries (ap entries_of c.clear.ensures)
    (omega (arith, c.requires.stands.within, ap (λ (k : KeptLists). k.place) c.self.view_is))

pub returns-in-Ok-clause-reads : goal.returns-in-Ok-clause-reads
returns-in-Ok-clause-reads c =
    let l = c.self.inside in
    reads_here c.args.log.now.entries l.place c.args.to l.kept.cap l.kept.entries c.args.self.now c.self.view_is c.args.channels.now c.args.log.now.reads c.ask_from-found.new.log.reads c.ask_from-found.ensures.reads

pub returns-in-Err-clause-reads : goal.returns-in-Err-clause-reads
returns-in-Err-clause-reads c =
    let l = c.self.inside in
    reads_here c.args.log.now.entries l.place c.args.to l.kept.cap l.kept.entries c.args.self.now c.self.view_is c.args.channels.now c.args.log.now.reads c.ask_from-found.new.log.reads c.ask_from-found.ensures.reads
