use Rattle.std.proofs.Common.{◌≡◌, ◌+◌, length}
use Rattle.std.specs.Vec.Iter.{into_iter_items, into_iter_len}
use Rattle.session_core.specs.Conduct.{requests_among}
use Rattle.session_run.specs.inner.Putting.{MayPutAll, put_all}
use Rattle.session_run.proofs.putting.put.Given as goal

abbrev pub invariant-loop-act : goal.invariant-loop-act
invariant-loop-act l = (put_all (into_iter_items l.act-iterator) l.mux ≡ put_all (into_iter_items l.initial.act-iterator) l.initial.mux)
    × MayPutAll l.mux.outbox.waiting (into_iter_items l.act-iterator)
    × (l.mux.outbox.requests + requests_among (into_iter_items l.act-iterator) ≡ l.initial.mux.outbox.requests + requests_among (into_iter_items l.initial.act-iterator))
    × (l.mux.received ≡ l.initial.mux.received)
    × (l.mux.sent ≡ l.initial.mux.sent)
    × (into_iter_len l.act-iterator ≡ length (into_iter_items l.act-iterator))
