-- the sync function's text, its program and the faults of its names
use Rattle.std.proofs.Common.{◌≡◌, List, [], refl, true, false}
use Rattle.std.specs.Prelude.{Result, Err}
use Rattle.sync_syntax.specs.declared.fault.ParseFault.{ParseFault}
use Rattle.sync_syntax.specs.declared.tree.Program.{Program}
use Rattle.sync_resolve.specs.declared.fault.ResolveFault.{ResolveFault}
use Rattle.gateway_config.specs.Faults.{is_sound, no_faults}

pub none_of : (es : List ResolveFault) → es ≡ [] → no_faults es ≡ true
none_of es h = rw h refl

pub unread : (r : Result Program ParseFault) (e : ParseFault) → r ≡ Err e → is_sound r ≡ false
unread r e h = rw h refl
