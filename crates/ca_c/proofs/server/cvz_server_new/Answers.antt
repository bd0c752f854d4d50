use Rattle.std.proofs.Common.{inl, [], refl, subst}
use Rattle.ca_c.specs.Servers.{IsBegun}
use Rattle.ca_c.proofs.server.cvz_server_new.Goals as goal

-- what the box has is what was begun, with no rule and no record
pub returns-in-Ok : goal.returns-in-Ok
returns-in-Ok c =
    let port = c.args.port in let now = c.args.now in let s = c.in-Ok.object.value in
    let no_record = subst (λ records. IsBegun port now c.new.result.items records s) c.new-records.ensures c.in-Ok.ensures in
    inl (refl, (s, (c.put.ensures, subst (λ rules. IsBegun port now rules [] s) c.new.ensures.items no_record)))
