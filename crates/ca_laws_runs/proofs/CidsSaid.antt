-- The CIDs in a client's messages, as more are sent.
use Rattle.std.proofs.Common.{◌≡◌, ℕ, zero, suc, inl, inr, Bool, true, false, cond, List, [], ◌∷◌, ◌++◌, refl, sym, ap, ◌∙◌, subst}
use Rattle.std.specs.Prelude.{filter, map}
use Rattle.ca_text.specs.Place.{At}
use Rattle.ca_text.proofs.Places.{some_is, At-append, At-mapped, At-one, At-parts}
use Rattle.ca_arena.specs.declared.handle.Handle.{Handle}
use Rattle.ca_ids.specs.Wire.{wire_of}
use Rattle.ca_model.specs.Answers.{Sending}
use Rattle.ca_model.specs.History.{Clear, Create, On, Sent}
use Rattle.ca_model.specs.World.{Names}
use Rattle.ca_laws_parts.specs.Circuit.{stamped}
use Rattle.ca_laws_runs.specs.Quiet.{AreCids, HasCid, HaveCids}

-- a message that neither creates a channel nor clears one
abbrev pub NoCid : Sent → Type 0
NoCid s = (a : ℕ) → (s.intent ≡ On a Create → ⊥) × (s.intent ≡ On a Clear → ⊥)

pub cid-none : (channels : List Handle) (s : Sent) → NoCid s → HasCid channels s
cid-none channels s none a = (λ e. absurd ((none a).0 e), λ e. absurd ((none a).1 e))

-- more channels have numbers
pub cids-more : (channels more : List Handle) (up : List Sent) → HaveCids channels up → HaveCids (channels ++ more) up
cids-more channels more up h p s at a =
    let r = h p s at a in
    (λ e. (let b = r.0 e in (b.0, At-append channels more a b.0 b.1, b.2)), λ e. (let b = r.1 e in (b.0, At-append channels more a b.0 b.1, b.2)))

pub cids-parts : (channels : List Handle) (up ss : List Sent) → HaveCids channels up → HaveCids channels ss → HaveCids channels (up ++ ss)
cids-parts channels up ss h more p s at = elim (At-parts up ss p s at) [ inl old ↦ h p s old | inr new ↦ more new.0 s new.2 ]

pub cids-one : (channels : List Handle) (s : Sent) → HasCid channels s → HaveCids channels (s ∷ [])
cids-one channels s own zero r at = subst (λ (z : Sent). HasCid channels z) (some_is s r at) own
cids-one channels s own (suc p) r at = absurd cc

-- of what a call sent on one circuit
pub cids-said : (channels : List Handle) (n : Names) (keeps : Sending → Bool) (sent : List Sending) → ((i : ℕ) (s : Sending) → At sent i s → HasCid channels (stamped n s)) → HaveCids channels (map (stamped n) (filter keeps sent))
cids-said channels n keeps sent each i s at =
    let m = At-mapped (stamped n) (filter keeps sent) i s at in
    subst (λ (z : Sent). HasCid channels z) (sym m.2) (kept sent i m.0 each m.1)
  where
    kept : (xs : List Sending) (i : ℕ) (x : Sending) → ((i : ℕ) (s : Sending) → At xs i s → HasCid channels (stamped n s)) → At (filter keeps xs) i x → HasCid channels (stamped n x)
    kept [] i x each at = absurd cc
    kept (y ∷ xs) i x each at = go (keeps y) i at (λ j there. kept xs j x (λ k s place. each (suc k) s place) there)
      where
        go : (b : Bool) (i : ℕ) → At (cond b (y ∷ filter keeps xs) (filter keeps xs)) i x → ((j : ℕ) → At (filter keeps xs) j x → HasCid channels (stamped n x)) → HasCid channels (stamped n x)
        go true zero at rest = subst (λ (z : Sending). HasCid channels (stamped n z)) (some_is y x at) (each 0 y refl)
        go true (suc i) at rest = rest i at
        go false i at rest = rest i at

-- so a CLEAR_CHANNEL has the CID of its channel's CREATE_CHANs
pub cids-are : (channels : List Handle) (up : List Sent) → HaveCids channels up → AreCids up
cids-are channels up h p q a r s at_r at_s is_r is_s =
    let f = (h p r at_r a).0 is_r in
    let g = (h q s at_s a).1 is_s in
    f.2 ∙ ap wire_of (At-one channels a f.0 g.0 f.1 g.1) ∙ sym g.2
