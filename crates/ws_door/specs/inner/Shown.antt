-- what the references in a request point to; only proofs need this
use Rattle.std.specs.Prelude.{option_map}
use Rattle.ws_door.specs.Requests as spec
use Rattle.ws_door.specs.declared.request.Request.{Request}

abbrev pub shown : Request → spec.Request
shown r = record {
  method = r.method.now;
  target = r.target.now;
  upgrade = option_map (λ v. v.now) r.upgrade;
  version = option_map (λ v. v.now) r.version;
  key = option_map (λ v. v.now) r.key;
  protocols = option_map (λ v. v.now) r.protocols;
  cookies = option_map (λ v. v.now) r.cookies;
}
