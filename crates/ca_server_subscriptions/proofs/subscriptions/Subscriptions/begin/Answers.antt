use Rattle.std.proofs.Common.{◌≡◌, ◌<◌, None, false, List, [], ◌∷◌, ◌++◌, length, sym, ap, ◌∙◌, subst, arith}
use Rattle.std.specs.Map.{lookup}
use Rattle.std.proofs.lemmas.List.{length-map}
use Rattle.ca_queue.specs.declared.entry.SubKey.{SubKey}
use Rattle.ca_queue.specs.Keys.{is_among, same}
use Rattle.indexmap.proofs.CallerLemmas.{insert_entry-new}
use Rattle.ca_queue.specs.Queue.{Queue}
use Rattle.ca_model.specs.Server.{Subscription, key_of}
use Rattle.ca_model.specs.Speech.{Stored}
use Rattle.ca_server_subscriptions.specs.ByChannel.{AreByChannel, ids_in}
use Rattle.ca_server_subscriptions.specs.ByRecord.{Lines, receivers_in, receivers_of}
use Rattle.ca_server_subscriptions.specs.Subscribed.{AreAskable, ArePlaced, Joins, Standings, Subscribed, keys_in, subscriptions_in}
use Rattle.ca_server_subscriptions.proofs.Channels.{channels-more}
use Rattle.ca_server_subscriptions.proofs.Owing.{refused-none}
use Rattle.ca_server_subscriptions.proofs.Placing.{begins-new, has-none, if-err, if-ok, new-key, not-there, some-room}
use Rattle.ca_server_subscriptions.proofs.Receivers.{askable-more, begun-gone, begun-has, lines-more, none-only_one}
use Rattle.ca_server_subscriptions.proofs.subscriptions.Subscriptions.begin.Goals as goal

pub begin-requires : goal.begin-requires
begin-requires c =
    let es = c.self.inside.standing.entries in
    let qs = c.self.inside.queues in
    let key : SubKey = record { sid = c.args.wanted.sid; sub = c.args.wanted.id } in
    rw (c.number.ensures, c.number-2.ensures) (has-none es qs key c.self.invariant.0 (new-key es qs c.self.invariant.0 key c.args.self.now c.self.view_is c.requires.new))

pub unreachable-requires : goal.unreachable-requires
unreachable-requires c =
    let es = c.self.inside.standing.entries in
    let n : length c.args.self.now.subscriptions ≡ length es =
    sym (ap (λ (s : Subscribed). length s.subscriptions) c.self.view_is) ∙ length-map es (λ e. e.1.0) in
    let few : length es < 288 = (let lt = c.requires.few in omega (arith, n, lt)) in
    let full = rw c.in-Err-TooManySubscriptions.field-0-is at c.in-Err-TooManySubscriptions.ensures in
    some-room es c.self.inside.queues c.self.invariant.0 full.0 few

-- those that there are now
grown : (c : goal.Joined-this-2)
    → (let key : SubKey = record { sid = c.number.result; sub = c.number-2.result } in
    let s : Subscription = record { wanted = c.args.wanted; name = c.args.name.items; mask = c.args.mask } in
    c.insert.new.self.entries ≡ c.self.inside.standing.entries ++ (key, (s, c.in-Ok.queue)) ∷ [])
grown c =
    let es = c.self.inside.standing.entries in
    let s : Subscription = record { wanted = c.args.wanted; name = c.args.name.items; mask = c.args.mask } in
    let key : SubKey = record { sid = c.number.result; sub = c.number-2.result } in
    let keyed : key ≡ key_of s = (λ i. record { sid = c.number.ensures i; sub = c.number-2.ensures i }) in
    let fresh = new-key es c.self.inside.queues c.self.invariant.0 (key_of s) c.args.self.now c.self.view_is c.requires.new in
    let absent : lookup (same key) es ≡ None = subst (λ (k : SubKey). lookup (same k) es ≡ None) (sym keyed) (not-there es c.self.inside.queues c.self.invariant.0 (key_of s) fresh) in
    let still : c.reserve.new.self.entries ≡ es = c.reserve.ensures.entries in
    let absent_still : lookup (same key) c.reserve.new.self.entries ≡ None = subst (λ (xs : Standings). lookup (same key) xs ≡ None) (sym still) absent in
    c.in-Ok-insert.ensures.entries ∙ insert_entry-new same c.reserve.new.self key c.new-standing.result absent_still
    ∙ (λ i. still i ++ (key, c.new-standing.ensures i) ∷ [])

begun : (c : goal.Joined-this-2)
    → ArePlaced c.insert.new.self.entries c.begin.new.self
    × Joins (record { wanted = c.args.wanted; name = c.args.name.items; mask = c.args.mask }) c.args.update c.args.self.now
    (record { subscriptions = subscriptions_in c.insert.new.self.entries; queues = c.begin.new.self })
begun c =
    let s : Subscription = record { wanted = c.args.wanted; name = c.args.name.items; mask = c.args.mask } in
    let key : SubKey = record { sid = c.number.result; sub = c.number-2.result } in
    let keyed : key ≡ key_of s = (λ i. record { sid = c.number.ensures i; sub = c.number-2.ensures i }) in
    begins-new c.self.inside.standing.entries c.self.inside.queues c.self.invariant.0 s c.args.update c.args.self.now key c.in-Ok.queue c.insert.new.self.entries c.begin.new.self c.self.view_is keyed c.requires.new
    (grown c) c.in-Ok.ensures

pub invariant_of-self-2 : goal.invariant_of-self-2
invariant_of-self-2 c =
    let s : Subscription = record { wanted = c.args.wanted; name = c.args.name.items; mask = c.args.mask } in
    let key : SubKey = record { sid = c.number.result; sub = c.number-2.result } in
    let name : c.as_slice.result.now ≡ c.args.name.items = c.as_slice.ensures.value in
    let adds = if-ok c.add-2.result (sym c.is_err.ensures.value ∙ c.if-is_err.false) c.add-2.ensures.ok in (
      (begun c).0,
      lines-more c.self.inside.by_record c.add-2.new.self c.self.inside.standing.entries c.insert.new.self.entries (key, (s, c.in-Ok.queue)) c.as_slice.result.now c.new-receiver.result (sym name)
          c.new-receiver.ensures (grown c) adds c.self.invariant.1,
      none-only_one c.insert.new.self.entries,
      askable-more c.self.inside.standing.entries c.insert.new.self.entries (key, (s, c.in-Ok.queue)) (grown c) c.requires.askable c.self.invariant.3,
      channels-more c.self.inside.by_channel c.self.inside.standing.entries c.self.invariant.4 c.add.new.self c.insert.new.self.entries (key, (s, c.in-Ok.queue)) (grown c) c.in_ok-add.ensures.ok,
    )

pub returns-clause-ok : goal.returns-clause-ok
returns-clause-ok c = (begun c).1

pub cancel-requires : goal.cancel-requires
cancel-requires c =
    let es = c.self.inside.standing.entries in
    let key : SubKey = record { sid = c.number.result; sub = c.number-2.result } in
    let wanted : SubKey = record { sid = c.args.wanted.sid; sub = c.args.wanted.id } in
    let keyed : key ≡ wanted = (λ i. record { sid = c.number.ensures i; sub = c.number-2.ensures i }) in
    let fresh : is_among key (keys_in es) ≡ false =
    subst (λ (k : SubKey). is_among k (keys_in es) ≡ false) (sym keyed) (new-key es c.self.inside.queues c.self.invariant.0 wanted c.args.self.now c.self.view_is c.requires.new) in
    begun-has es c.self.inside.queues c.begin.new.self key c.args.update c.in-Ok.queue c.self.invariant.0 fresh c.in-Ok.ensures

-- the queues are as they were if the line had no memory
gone : (c : goal.After-drop-name-then-is_err) → c.cancel.new.self ≡ c.self.inside.queues
gone c =
    let es = c.self.inside.standing.entries in
    let key : SubKey = record { sid = c.number.result; sub = c.number-2.result } in
    let wanted : SubKey = record { sid = c.args.wanted.sid; sub = c.args.wanted.id } in
    let keyed : key ≡ wanted = (λ i. record { sid = c.number.ensures i; sub = c.number-2.ensures i }) in
    let fresh : is_among key (keys_in es) ≡ false =
    subst (λ (k : SubKey). is_among k (keys_in es) ≡ false) (sym keyed) (new-key es c.self.inside.queues c.self.invariant.0 wanted c.args.self.now c.self.view_is c.requires.new) in
    c.cancel.ensures ∙ begun-gone es c.self.inside.queues c.begin.new.self key c.args.update c.in-Ok.queue c.self.invariant.0 fresh c.in-Ok.ensures

pub invariant_of-self-in-Err : goal.invariant_of-self-in-Err
invariant_of-self-in-Err c =
    let es = c.self.inside.standing.entries in
    let key : SubKey = record { sid = c.number.result; sub = c.number-2.result } in
    let stay : c.begin.new.self ≡ c.self.inside.queues = refused-none key c.args.update c.in-Err.field-0 c.self.inside.queues c.begin.new.self c.in-Err.ensures in
    let back = c.take_back.ensures.back (ids_in c.self.inside.by_channel) c.in_ok-add.ensures.ok ∙ c.self.invariant.4 in
    rw (c.reserve.ensures.entries, stay) (c.self.invariant.0, c.self.invariant.1, none-only_one es, c.self.invariant.3, back)

pub invariant_of-self-then-is_err : goal.invariant_of-self-then-is_err
invariant_of-self-then-is_err c =
    let es = c.self.inside.standing.entries in
    let still : c.reserve.new.self.entries ≡ es = c.reserve.ensures.entries in
    let same_lines = if-err c.add-2.result (sym c.is_err.ensures.value ∙ c.if-is_err.true) c.add-2.ensures.err in (
      subst (λ (xs : Standings). ArePlaced xs c.cancel.new.self) (sym still) (subst (λ (rs : List (Queue Stored)). ArePlaced es rs) (sym (gone c)) c.self.invariant.0),
      λ name. ap (λ (w : Lines). receivers_in w name) same_lines ∙ c.self.invariant.1 name ∙ ap (receivers_of name) (sym still),
      none-only_one c.reserve.new.self.entries,
      subst (λ (xs : Standings). AreAskable xs) (sym still) c.self.invariant.3,
      subst (λ (xs : Standings). AreByChannel c.take_back-then-is_err.new.self xs) (sym still)
          (c.take_back-then-is_err.ensures.back (ids_in c.self.inside.by_channel) c.in_ok-add.ensures.ok ∙ c.self.invariant.4),
    )

pub returns-then-is_err-clause-err : goal.returns-then-is_err-clause-err
returns-then-is_err-clause-err c =
    let still : c.reserve.new.self.entries ≡ c.self.inside.standing.entries = c.reserve.ensures.entries in
    (λ i. let now : Subscribed = record { subscriptions = subscriptions_in (still i); queues = gone c i } in now) ∙ c.self.view_is
