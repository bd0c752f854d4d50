-- The puts of servers beside their channels, as one end and its circuit change.
use Rattle.std.proofs.Common.{◌≡◌, ℕ, ◌≤◌, inl, inr, Bool, true, false, not, eqb, eqb-true, List, length, Option, Some, None, refl, sym, ap, subst, ◌∙◌}
use Rattle.std.specs.Prelude.{filter, option_map, unwrap_or}
use Rattle.ca_arena.specs.declared.handle.Handle.{Handle}
use Rattle.ca_ids.specs.Table.{Table, by_wire, under, with_each, with_freed, with_held}
use Rattle.ca_ids.specs.Wire.{wire_of}
use Rattle.ca_model.proofs.Tables.{freed-back, held-back, under-wire}
use Rattle.ca_model.proofs.Thinner.{given-held, given-thin, thin-freed}
use Rattle.ca_model.specs.Placed.{WasGiven}
use Rattle.ca_text.specs.Limits.{arena_slots}
use Rattle.ca_text.specs.Place.{At}
use Rattle.ca_wire.specs.Fields.{Fields}
use Rattle.ca_model.specs.Due.{Action, Adds, Applies, Clears, Drops, Opens, Switches}
use Rattle.ca_model.specs.Due as action
use Rattle.ca_model.specs.History.{Sent, Step}
use Rattle.ca_model.specs.Server.{OpenChannel, Server, ServerEnd}
use Rattle.ca_model.specs.ServerCalls.{end_without, retired}
use Rattle.ca_model.specs.ServerSteps.{Acts, without_channel}
use Rattle.ca_model.specs.Speech.{In, sid_in}
use Rattle.ca_model.specs.ServerEvents.{handled_at, numbers_after}
use Rattle.ca_model.specs.World.{Creation, Joined, PutPlace, ServerSide}
use Rattle.ca_laws_parts.proofs.Tables.{thin-each}
use Rattle.ca_laws_parts.proofs.Channels.{each-back}
use Rattle.ca_laws_parts.proofs.RunsSending.{not-given}
use Rattle.ca_laws_parts.proofs.WritesLists.{In-append, kept-in}
use Rattle.ca_laws_runs.specs.Pairs.{SideWaits}
use Rattle.ca_laws_runs.specs.Puts.{PutsOn}

-- What is open still was open, no handle is forgotten, and creations of what is open stay.
pub record Stays (y : ServerSide) (n : ℕ) (e f : ServerEnd) (c d : Joined) : Type 0 where
  pub handle : d.at_server ≡ c.at_server
  pub up : (p : ℕ) (s : Sent) → At c.lists.up p s → At d.lists.up p s
  pub given : (h : Handle) → WasGiven e.channels h → WasGiven f.channels h
  pub open_then : (h : Handle) (ch : OpenChannel) → WasGiven e.channels h → under f.channels h ≡ Some ch
      → ((was : OpenChannel) × (under e.channels h ≡ Some was)) × ((x : Creation) → In c.creations x → x.sid ≡ wire_of h → In d.creations x)
  pub waits : (q : PutPlace) (s : Sent) (x : Creation) → SideWaits y.records q → q.circuit ≡ n → At c.lists.up q.place s → In c.creations x → x.sid ≡ sid_in s.message → In d.creations x

pub puts-stay : (y : ServerSide) (n : ℕ) (e f : ServerEnd) (c d : Joined) → Stays y n e f c d → PutsOn y n e c → PutsOn y n f d
puts-stay y n e f c d s h = record {
  busy = λ q b p is.
      let was = h.busy q b p is in
      record {
        given = s.given b.channel was.given;
        before = λ ch there.
            let o = s.open_then b.channel ch was.given there in
            let x = was.before o.0.0 o.0.1 in
            (x.0, o.1 x.0 x.1 x.2, x.2, x.3);
      };
  given = λ b p is. s.given b.channel (h.given b p (is ∙ s.handle));
  waits = λ q p is. (let z = h.waits q p is in (z.0, s.up q.place z.0 z.1, (z.2.0, s.waits q z.0 z.2.0 p is z.1 z.2.1 z.2.2, z.2.2, z.2.3)));
}

-- the same channels and creations
pub stays-same : (y : ServerSide) (n : ℕ) (e f : ServerEnd) (c d : Joined) → f.channels ≡ e.channels → d.at_server ≡ c.at_server → ((p : ℕ) (s : Sent) → At c.lists.up p s → At d.lists.up p s) → d.creations ≡ c.creations → Stays y n e f c d
stays-same y n e f c d table handle up creations = record {
  handle = handle;
  up = up;
  given = λ h g. subst (λ (t : Table OpenChannel). WasGiven t h) (sym table) g;
  open_then = λ h ch g there. ((ch, subst (λ (t : Table OpenChannel). under t h ≡ Some ch) table there), λ x at is. subst (λ (l : List Creation). In l x) (sym creations) at);
  waits = λ q s x p is at in_it same. subst (λ (l : List Creation). In l x) (sym creations) in_it;
}

-- channels of a removed record
pub stays-removed : (y : ServerSide) (n : ℕ) (name : List ℕ) (e : ServerEnd) (c d : Joined) → d.at_server ≡ c.at_server → d.lists.up ≡ c.lists.up → d.creations ≡ c.creations → Stays y n e (end_without name e) c d
stays-removed y n name e c d handle up creations = record {
  handle = handle;
  up = λ p s at. subst (λ (l : List Sent). At l p s) (sym up) at;
  given = λ h g. given-thin e.channels (with_each (retired name) e.channels) h (thin-each (retired name) e.channels) g;
  open_then = λ h ch g there. (
    (let u = each-back (retired name) e.channels h ch there in (u.0, u.1)),
    λ x at is. subst (λ (l : List Creation). In l x) (sym creations) at,
  );
  waits = λ q s x p is at in_it same. subst (λ (l : List Creation). In l x) (sym creations) in_it;
}

-- ---- a message

-- nothing that waits is on a channel that is cleared
abbrev pub NoneCleared : ServerSide → ℕ → Joined → Action → Type 0
NoneCleared y n c (Clears sid) = (q : PutPlace) (s : Sent) → SideWaits y.records q → q.circuit ≡ n → At c.lists.up q.place s → sid_in s.message ≡ sid → ⊥
NoneCleared y n c did = Unit {0}

module _ (y : ServerSide) (n : ℕ) (core : Server) (e new : ServerEnd) (c : Joined) (step : Step) (replies : List Fields) (few : length e.channels ≤ arena_slots) where
  abbrev place : ℕ
  place = length c.lists.handled

  abbrev After : Action → Joined
  After did = handled_at place step replies (numbers_after place did c)

  not-sid : (sid : ℕ) (x : Creation) → (x.sid ≡ sid → ⊥) → not (eqb x.sid sid) ≡ true
  not-sid sid x other = go (eqb x.sid sid) refl
    where
      go : (b : Bool) → eqb x.sid sid ≡ b → not (eqb x.sid sid) ≡ true
      go true is = absurd (other (eqb-true x.sid sid is))
      go false is = ap (λ (b : Bool). not b) is

  cleared : (sid : ℕ) → NoneCleared y n c (Clears sid) → new ≡ without_channel sid e → Stays y n e new c (After (Clears sid))
  cleared sid none is = subst (λ (x : ServerEnd). Stays y n e x c (After (Clears sid))) (sym is) (go (by_wire e.channels sid) refl)
    where
      table : Option (Handle × OpenChannel) → Table OpenChannel
      table o = unwrap_or (option_map (λ (z : Handle × OpenChannel). with_freed z.0 e.channels) o) e.channels

      keeps : (x : Creation) → In c.creations x → (x.sid ≡ sid → ⊥) → In (filter (λ (z : Creation). not (eqb z.sid sid)) c.creations) x
      keeps x in_it other = kept-in (λ (z : Creation). not (eqb z.sid sid)) c.creations x in_it (not-sid sid x other)

      made : (f : ServerEnd) → ((h : Handle) → WasGiven e.channels h → WasGiven f.channels h)
          → ((h : Handle) (ch : OpenChannel) → under f.channels h ≡ Some ch → (under e.channels h ≡ Some ch) × (wire_of h ≡ sid → ⊥)) → Stays y n e f c (After (Clears sid))
      made f given back = record {
        handle = refl;
        up = λ p s at. at;
        given = given;
        open_then = λ h ch g there. (let b = back h ch there in ((ch, b.0), λ x in_it same. keeps x in_it (λ own. b.1 (sym same ∙ own))));
        waits = λ q s x p own at in_it same. keeps x in_it (λ is_sid. none q s p own at (sym same ∙ is_sid));
      }

      none-some : (x : Handle × OpenChannel) → let a : Option (Handle × OpenChannel) = None in let b : Option (Handle × OpenChannel) = Some x in a ≡ b → ⊥
      none-some x eq = cc

      some-one : (a b : Handle × OpenChannel) → Some a ≡ Some b → a ≡ b
      some-one a b eq = cc

      go : (o : Option (Handle × OpenChannel)) → by_wire e.channels sid ≡ o → Stays y n e (without_channel sid e) c (After (Clears sid))
      go None found =
          let same : (without_channel sid e).channels ≡ e.channels = ap table found in
          made (without_channel sid e) (λ h g. subst (λ (t : Table OpenChannel). WasGiven t h) (sym same) g)
          (λ h ch there.
          let was : under e.channels h ≡ Some ch = subst (λ (t : Table OpenChannel). under t h ≡ Some ch) same there in
          (was, λ own. none-some (h, ch) (sym found ∙ ap (λ (id : ℕ). by_wire e.channels id) (sym own) ∙ under-wire e.channels h ch few was)))
      go (Some z) found =
          let same : (without_channel sid e).channels ≡ with_freed z.0 e.channels = ap table found in
          made (without_channel sid e) (λ h g. subst (λ (t : Table OpenChannel). WasGiven t h) (sym same) (given-thin e.channels (with_freed z.0 e.channels) h (thin-freed z.0 e.channels) g))
          (λ h ch there.
          let b = freed-back e.channels h z.0 ch (subst (λ (t : Table OpenChannel). under t h ≡ Some ch) same there) in
          (b.1, λ own. b.0 (ap (λ (p : Handle × OpenChannel). p.0) (some-one (h, ch) z (sym (under-wire e.channels h ch few b.1) ∙ ap (λ (id : ℕ). by_wire e.channels id) own ∙ found)))))

  alike : (did : Action) → new.channels ≡ e.channels → (After did).at_server ≡ c.at_server → (After did).lists.up ≡ c.lists.up → (After did).creations ≡ c.creations → Stays y n e new c (After did)
  alike did table handle up creations = stays-same y n e new c (After did) table handle (λ p s at. subst (λ (l : List Sent). At l p s) (sym up) at) creations

  pub stays-handled : (did : Action) → NoneCleared y n c did → Acts core e did new → Stays y n e new c (After did)
  stays-handled (Opens k) none (g, may, wire, is) =
      let v : OpenChannel = record { cid = k.cid; name = k.name; retired = false } in
      let table : new.channels ≡ with_held g v e.channels = ap (λ (x : ServerEnd). x.channels) is in
      record {
        handle = refl;
        up = λ p s at. at;
        given = λ h was. subst (λ (t : Table OpenChannel). WasGiven t h) (sym table) (given-held e.channels h g v may was);
        open_then = λ h ch was there. elim (held-back e.channels h g v ch (subst (λ (t : Table OpenChannel). under t h ≡ Some ch) table there)) [
          | inl own ↦ absurd (not-given e.channels g may (subst (λ (z : Handle). WasGiven e.channels z) own.0 was))
          | inr old ↦ ((ch, old), λ x in_it same. In-append c.creations _ x in_it)
        ];
        waits = λ q s x p own at in_it same. In-append c.creations _ x in_it;
      }
  stays-handled (Clears sid) none is = cleared sid none is
  stays-handled (Adds s) none is = alike (Adds s) (ap (λ (x : ServerEnd). x.channels) is.2.leaves) refl refl refl
  stays-handled (Drops key) none is = alike (Drops key) (ap (λ (x : ServerEnd). x.channels) is) refl refl refl
  stays-handled (Switches on) none is = alike (Switches on) (ap (λ (x : ServerEnd). x.channels) is) refl refl refl
  stays-handled action.Greets none is = alike action.Greets (ap (λ (x : ServerEnd). x.channels) is) refl refl refl
  stays-handled (action.Names p) none is = alike (action.Names p) (ap (λ (x : ServerEnd). x.channels) is) refl refl refl
  stays-handled action.Nothing none is = alike action.Nothing (ap (λ (x : ServerEnd). x.channels) is) refl refl refl
  stays-handled (Applies name value busies) none is = alike (Applies name value busies) (ap (λ (x : ServerEnd). x.channels) is) refl refl refl
  stays-handled (action.Waits name value) none is = alike (action.Waits name value) (ap (λ (x : ServerEnd). x.channels) is) refl refl refl
