-- What a reply means to its request.
use Rattle.std.proofs.Common.{◌≤◌, inl, inr, Bool, subst}
use Rattle.std.proofs.lemmas.Bool.{le-ltb}
use Rattle.ca_dbr.specs.declared.value.Outcome.{Outcome}
use Rattle.ca_wire.specs.Fields.{Fields}
use Rattle.ca_requests.specs.Meaning.{IsPlain, Means, MeansTo, ReadMeans}
use Rattle.ca_requests.specs.Requests.{Asked}
use Rattle.ca_requests.specs.Requests as request

-- What it means to one that asks for no display data, that it means by itself.
pub means-of : (a : Asked) (m : Fields) (o : Outcome) → IsPlain a → MeansTo a m o → Means m o
means-of (request.Read data_type count) m o plain (is, means) =
    inl (inl is, subst (λ (b : Bool). ReadMeans b m o) (le-ltb 20 data_type plain) means)
means-of request.Put m o plain (is, means) = inr (inl (is, means))
