use Rattle.std.proofs.Common.{◌≡◌, ◌++◌, ◌∷◌, ◌∙◌, ℕ, List, [], Some, ap, Ok, refl, subst, sym}
use Rattle.ca_search.specs.Clock.{fresh}
use Rattle.ca_search.specs.Searcher.{holds}
use Rattle.ca_search.specs.Searches as search
use Rattle.ca_ids.specs.Table.{with_held}
use Rattle.ca_ids.specs.Wire.{wire_of}
use Rattle.ca_model.specs.Client.{Channel, Client, Searching}
use Rattle.ca_model.specs.ClientCalls.{ClientOpens, Opening, opened}
use Rattle.ca_client_core.proofs.Openings.{client-opened, opened-is, searched-fresh}
use Rattle.ca_client_tables.specs.Sound.{IsSound}
use Rattle.ca_client_core.proofs.Placing.{placed-held, refused-same}
use Rattle.ca_client_core.proofs.Listing.{listed-opened}
use Rattle.ca_client_core.proofs.client.ClientCore.open.Goals as goal

pub insert-requires-clause-fresh : goal.insert-requires-clause-fresh
insert-requires-clause-fresh c =
    let q = c.in-Ok.handle in
    let cid : c.number-cid.result ≡ wire_of q = c.number-cid.ensures ∙ c.of.ensures in
    ap (λ (n : ℕ). holds n c.reserve.new.self.entries) cid
    ∙ ap (holds (wire_of q)) c.in_ok-reserve.ensures.entries
    ∙ searched-fresh c.self.inside.channels c.self.inside.searches.entries q c.in-Ok.ensures.0 c.self.invariant.client.searched

pub invariant_of-self-2 : goal.invariant_of-self-2
invariant_of-self-2 c =
    let q = c.in-Ok.handle in
    let cid : c.number-cid.result ≡ wire_of q = c.number-cid.ensures ∙ c.of.ensures in
    let more : c.insert.new.self.entries ≡ c.self.inside.searches.entries ++ (wire_of q, c.new-2.result) ∷ [] =
    c.insert.ensures
    ∙ ap (λ (es : List (ℕ × search.Channel)). es ++ (c.number-cid.result, c.new-2.result) ∷ []) c.in_ok-reserve.ensures.entries
    ∙ ap (λ (n : ℕ). c.self.inside.searches.entries ++ (n, c.new-2.result) ∷ []) cid in
    let kept = client-opened c.self.inside.channels c.open.new.self c.self.inside.searches.entries c.insert.new.self.entries q c.new.result c.new-2.result c.in-Ok.ensures.0 c.in-Ok.ensures.1 more c.self.invariant.client in
    record {
      client = kept;
      placed =
          placed-held c.self.inside.channels c.self.inside.requests.table c.self.inside.monitors c.self.inside.circuits c.self.invariant.placed q c.new.result c.open.new.self (ap (λ (d : Channel). d.standing) c.new.ensures) c.in-Ok.ensures.0 c.in-Ok.ensures.1;
      listed = listed-opened c.self.inside.channels c.open.new.self c.self.inside.lives.items q c.new.result (ap (λ (d : Channel). d.standing) c.new.ensures) c.in-Ok.ensures.1 c.self.invariant.listed;
    }

pub returns : goal.returns
returns c =
    let q = c.in-Ok.handle in
    let cid : c.number-cid.result ≡ wire_of q = c.number-cid.ensures ∙ c.of.ensures in
    let a : Opening = record { name = c.args.name.now; priority = c.args.priority; now = c.args.now } in
    let named : c.in_ok-own.own.items ≡ c.args.name.now = c.in_ok-own.ensures.items ∙ c.bytes.ensures.bytes ∙ c.in_ok-name.ensures.0 in
    let also : c.in_ok-searched.searched.items ≡ c.args.name.now = c.in_ok-searched.ensures.items ∙ c.bytes-2.ensures.bytes ∙ c.in_ok-name.ensures.0 in
    let channel : c.new.result ≡ record { name = c.args.name.now; priority = c.args.priority; standing = Searching } =
    c.new.ensures ∙ ap (λ (n : List ℕ). let d : Channel = record { name = n; priority = c.args.priority; standing = Searching } in d) named in
    let place : c.new-2.result ≡ record { name = c.args.name.now; clock = Some (fresh c.max-moment.result) } =
    c.new-2.ensures ∙ ap (λ (n : List ℕ). let d : search.Channel = record { name = n; clock = Some (fresh c.max-moment.result) } in d) also in
    let more : c.insert.new.self.entries ≡ c.self.inside.searches.entries ++ (wire_of q, record { name = c.args.name.now; clock = Some (fresh c.max-moment.result) }) ∷ [] =
    c.insert.ensures
    ∙ ap (λ (es : List (ℕ × search.Channel)). es ++ (c.number-cid.result, c.new-2.result) ∷ []) c.in_ok-reserve.ensures.entries
    ∙ ap (λ (n : ℕ). c.self.inside.searches.entries ++ (n, c.new-2.result) ∷ []) cid
    ∙ ap (λ (d : search.Channel). c.self.inside.searches.entries ++ (wire_of q, d) ∷ []) place in
    let i = c.self.inside in
    let x : Client = record {
      peer = record { user = i.user.items; host = i.host.items };
      servers = i.servers.items;
      moment = i.moment;
      channels = i.channels;
      requests = i.requests.table;
      subscriptions = i.monitors;
      circuits = i.circuits;
      order = i.order.items;
      issued = i.requests.order;
      searches = i.searches.entries;
      beacons = i.beacons;
    } in
    let left : Client = record x { moment = c.max-moment.result; channels = c.open.new.self; searches = c.insert.new.self.entries } in
    let is : left ≡ opened a q x =
    opened-is x a q c.max-moment.result c.open.new.self c.insert.new.self.entries c.max-moment.ensures (c.in-Ok.ensures.1 ∙ ap (λ (d : Channel). with_held q d i.channels) channel) more in
    subst (λ (y : Client). ClientOpens y a (Ok q) [] left) c.self.view_is
    ((c.in_ok-name.ensures.1, c.if-priority-gt-PRIORITY_LIMIT.false), c.in-Ok.ensures.0, (refl, is))

pub invariant_of-self-in-Err : goal.invariant_of-self-in-Err
invariant_of-self-in-Err c =
    let i = c.self.inside in
    let same : c.open.new.self ≡ i.channels = refused-same i.channels c.open.new.self c.new.result _ c.in-Err.refusal c.in-Err.ensures in
    subst (λ t. IsSound t c.reserve.new.self.entries i.requests.table i.monitors i.circuits i.lives.items) (sym same)
    (subst (λ es. IsSound i.channels es i.requests.table i.monitors i.circuits i.lives.items) (sym c.in_ok-reserve.ensures.entries) c.self.invariant)
