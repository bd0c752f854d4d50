-- What a client tells as its end of a circuit ends, or as it is handed a moment: of open requests
-- that were sent there, and of channels that were live there.
use Rattle.std.proofs.Common.{◌≡◌, ℕ, zero, suc, ◌+◌, ◌<◌, inl, inr, ◌⊎◌, Bool, true, false, cond, List, [], ◌∷◌, length, Option, Some, None, refl, sym, ap, ◌∙◌, subst, arith}
use Rattle.std.specs.List.{cons_option}
use Rattle.std.specs.Prelude.{filter_map, fold, is_none, map, not, option_and_then, option_map, unwrap_or}
use Rattle.std.proofs.lemmas.Bool.{both_ways}
use Rattle.ca_arena.specs.declared.handle.Handle.{Handle}
use Rattle.ca_dbr.specs.declared.value.Outcome.TheVariants as outcome
use Rattle.ca_ids.specs.Table.{Table, held, same_handle, under}
use Rattle.ca_link.specs.declared.keep.Keep.{Keep}
use Rattle.ca_link.specs.declared.keep.Keep.TheVariants.{Close, Echo, Idle}
use Rattle.ca_link.specs.Link.{kept}
use Rattle.ca_requests.specs.Requests.{was_sent_on}
use Rattle.ca_text.specs.declared.command.Command.TheVariants as command
use Rattle.ca_text.specs.Place.{At}
use Rattle.ca_text.proofs.Places.{At-append, At-last, At-mapped, At-parts, At-within, some_is}
use Rattle.ca_wire.specs.Messages.{header_only}
use Rattle.ca_model.specs.Answers.{Left, Notice}
use Rattle.ca_model.specs.Answers as notice
use Rattle.ca_model.specs.Client.{Channel, Client, ClientCircuit, Clearing, Connecting, Connection, Creating, Doomed, Leaving, Live, Native, On, Phase, Searching, Standing, channels_ended, channels_on, connection_at, disconnections, ended, farewell, is_cleared, is_live, is_on_in, later, let_go, on_connection, out_bytes, phase_on, searched_again, sending, without_channel, without_ids}
use Rattle.ca_model.specs.ClientEnds.{Ticking, circuits_ticked, of_circuit, ticks, ticks_as}
use Rattle.ca_model.proofs.Handles.{same-is}
use Rattle.ca_model.proofs.Letting.{listed-there}
use Rattle.ca_model.proofs.Placed.{keeps-on, keeps-sending}
use Rattle.ca_model.proofs.Standings.{at-filter-map, is-on, on-circuit}
use Rattle.ca_model.proofs.Tables.{AreApart, changed-back, freed-back, held-apart}
use Rattle.ca_laws_runs.specs.Sides.{IsLiveAs}
use Rattle.ca_laws_runs.proofs.Live.{channels-let-go, channels-sending, one-sid}
use Rattle.ca_laws_runs.proofs.OnceSent.{ended-linked}
use Rattle.ca_laws_runs.proofs.OpenLive.{IsLiveOn, Opens, opens-ended, opens-same, opens-sending, opens-then}
use Rattle.ca_laws_runs.proofs.ToldAsked.{IsOpenIn, gone-open}
use Rattle.ca_laws_parts.proofs.WritesLists.{none_at}

-- It says that a request is lost that was open, and sent on this circuit; or a channel
-- that was live there.
abbrev pub FromFarewell : Client → (c : Handle) → Notice → Type 0
FromFarewell x c said =
    ((q : Handle) × (said ≡ notice.Completed q outcome.Disconnected) × IsOpenIn (was_sent_on c) x q)
    ⊎ ((h : Handle) × (said ≡ notice.Lost h) × IsLiveOn x.channels c h)

-- a channel that is live on a circuit
pub live-standing : (c : Handle) (ch : Channel) → is_on_in is_live c ch ≡ true → (native : Native) × (rights : ℕ) × (ch.standing ≡ On c (Live native rights))
live-standing c ch is = go ch.standing is
  where
    phases : (d : Handle) (p : Phase) → same_handle d c ≡ true → is_live p ≡ true → (native : Native) × (rights : ℕ) × (On d p ≡ On c (Live native rights))
    phases d (Live native rights) e f = (native, rights, ap (λ (k : Handle). On k (Live native rights)) (same-is d c e))
    phases d Connecting e f = absurd (both_ways false refl f)
    phases d (Creating rights) e f = absurd (both_ways false refl f)
    phases d Leaving e f = absurd (both_ways false refl f)
    phases d Clearing e f = absurd (both_ways false refl f)
    phases d Doomed e f = absurd (both_ways false refl f)

    by : (d : Handle) (p : Phase) (b : Bool) → same_handle d c ≡ b → unwrap_or (option_map is_live (cond b (Some p) None)) false ≡ true → (native : Native) × (rights : ℕ) × (On d p ≡ On c (Live native rights))
    by d p true e f = phases d p e f
    by d p false e f = absurd (both_ways false refl f)

    go : (s : Standing) → unwrap_or (option_map is_live (phase_on c s)) false ≡ true → (native : Native) × (rights : ℕ) × (s ≡ On c (Live native rights))
    go Searching f = absurd (both_ways false refl f)
    go (On d p) f = by d p (same_handle d c) refl f

pub farewell-from : (c : Handle) (x : Client) (p : ℕ) (said : Notice) → At (farewell c x) p said → FromFarewell x c said
farewell-from c x p said at = elim (At-parts (disconnections (was_sent_on c) x) (map notice.Lost (channels_on is_live c x)) p said at) [
  | inl first ↦ (let g = gone-open (was_sent_on c) x p said first in inl (g.0, g.1, g.2))
  | inr more ↦
      let m = At-mapped notice.Lost (channels_on is_live c x) more.0 said more.2 in
      let ch = on-circuit is_live c x more.0 m.0 m.1 in
      let l = live-standing c ch.0 ch.2 in
      inr (m.0, m.2, (l.0.sid, record { ch = ch.0; native = l.0; rights = l.1; there = ch.1; stands = l.2; is = refl }))
]

-- ---- each channel once

named-own : (e : Handle × Channel) (b : Bool) (g : Handle) → cond b (Some e.0) None ≡ Some g → g ≡ e.0
named-own e true g is = sym (some_is e.0 g is)
named-own e false g is = absurd cc

module _ (test : Phase → Bool) (c : Handle) where
  abbrev named : Handle × Channel → Option Handle
  named e = cond (is_on_in test c e.1) (Some e.0) None

  named-one : (e : Handle × Channel) (es : List (Handle × Channel)) → AreApart (e ∷ es) → (h : Handle) → ((p q : ℕ) → p < q → At (filter_map named es) p h → At (filter_map named es) q h → ⊥)
      → (o : Option Handle) → named e ≡ o → (p q : ℕ) → p < q → At (cons_option o (filter_map named es)) p h → At (cons_option o (filter_map named es)) q h → ⊥
  named-one e es apart h rest None is p q lt a b = rest p q lt a b
  named-one e es apart h rest (Some g) is zero zero lt a b = omega (arith, lt)
  named-one e es apart h rest (Some g) is (suc p) zero lt a b = omega (arith, lt)
  named-one e es apart h rest (Some g) is zero (suc q) lt a b =
      let r = at-filter-map named es q h b in
      apart.0 r.0 r.1 r.2 (sym (named-own r.1 (is_on_in test c r.1.1) h r.3) ∙ sym (some_is g h a) ∙ named-own e (is_on_in test c e.1) g is)
  named-one e es apart h rest (Some g) is (suc p) (suc q) lt a b = rest p q (omega (arith, lt)) a b

  named-apart : (es : List (Handle × Channel)) → AreApart es → (h : Handle) (p q : ℕ) → p < q → At (filter_map named es) p h → At (filter_map named es) q h → ⊥
  named-apart [] apart h p q lt a b = none_at p h a
  named-apart (e ∷ es) apart h p q lt a b = named-one e es apart h (λ i j less at_i at_j. named-apart es apart.1 h i j less at_i at_j) (named e) refl p q lt a b

pub lost-one : (g h : Handle) → notice.Lost g ≡ notice.Lost h → g ≡ h
lost-one g h e = cc

pub lost-gone : (h q : Handle) → notice.Lost h ≡ notice.Completed q outcome.Disconnected → ⊥
lost-gone h q e = cc

-- No channel is told lost twice.
abbrev pub AreLostApart : List Notice → Type 0
AreLostApart ns = (p q : ℕ) (h : Handle) → p < q → At ns p (notice.Lost h) → At ns q (notice.Lost h) → ⊥

lost-in : (c : Handle) (x : Client) (p : ℕ) (h : Handle) → At (farewell c x) p (notice.Lost h) → (l : ℕ) × (p ≡ length (disconnections (was_sent_on c) x) + l) × At (channels_on is_live c x) l h
lost-in c x p h at = elim (At-parts (disconnections (was_sent_on c) x) (map notice.Lost (channels_on is_live c x)) p (notice.Lost h) at) [
  | inl first ↦ absurd (let g = gone-open (was_sent_on c) x p (notice.Lost h) first in lost-gone h g.0 g.1)
  | inr more ↦
      let m = At-mapped notice.Lost (channels_on is_live c x) more.0 (notice.Lost h) more.2 in
      (more.0, more.1, subst (λ (k : Handle). At (channels_on is_live c x) more.0 k) (sym (lost-one h m.0 m.2)) m.1)
]

pub farewell-apart : (c : Handle) (x : Client) → AreLostApart (farewell c x)
farewell-apart c x p q h lt at_p at_q =
    let a = lost-in c x p h at_p in
    let b = lost-in c x q h at_q in
    let first : p ≡ length (disconnections (was_sent_on c) x) + a.0 = a.1 in
    let next : q ≡ length (disconnections (was_sent_on c) x) + b.0 = b.1 in
    named-apart is_live c (held x.channels) (held-apart x.channels) h a.0 b.0 (omega (arith, lt, first, next)) a.2 b.2

farewell-live : (c : Handle) (x : Client) (p : ℕ) (h : Handle) → At (farewell c x) p (notice.Lost h) → IsLiveOn x.channels c h
farewell-live c x p h at = elim (farewell-from c x p (notice.Lost h) at) [
  | inl f ↦ absurd (lost-gone h f.0 f.1)
  | inr f ↦ subst (λ (k : Handle). IsLiveOn x.channels c k) (sym (lost-one h f.0 f.1)) f.2
]

-- ---- nothing is live that was not

pub record LivesBack (x y : Client) : Type 0 where
  pub back : (on h : Handle) (sid : ℕ) → IsLiveAs y.channels on h sid → IsLiveAs x.channels on h sid

lives-then : (x y z : Client) → LivesBack x y → LivesBack y z → LivesBack x z
lives-then x y z a b = record { back = λ on h sid l. a.back on h sid (b.back on h sid l) }

lives-same : (x y : Client) → y.channels ≡ x.channels → LivesBack x y
lives-same x y is = record { back = λ on h sid l. subst (λ (t : Table Channel). IsLiveAs t on h sid) is l }

lives-gone : (x : Client) (h : Handle) → LivesBack x (without_channel x h)
lives-gone x h = record { back = λ on g sid l. record { ch = l.ch; native = l.native; rights = l.rights; there = (freed-back x.channels g h l.ch l.there).1; stands = l.stands; is = l.is } }

lives-again : (x : Client) (h : Handle) → LivesBack x (searched_again x h)
lives-again x h = record {
  back = λ on g sid l. elim (changed-back (λ (w : Channel). record w { standing = Searching }) x.channels g h l.ch l.there) [
    | inl own ↦ absurd (let e : Searching ≡ On on (Live l.native l.rights) = ap (λ (z : Channel). z.standing) (sym own.1.2) ∙ l.stands in cc)
    | inr old ↦ record { ch = l.ch; native = l.native; rights = l.rights; there = old.1; stands = l.stands; is = l.is }
  ];
}

lives-fold : (f : Client → Handle → Client) → ((y : Client) (h : Handle) → LivesBack y (f y h)) → (hs : List Handle) (x : Client) → LivesBack x (fold f x hs)
lives-fold f each [] x = lives-same x x refl
lives-fold f each (h ∷ hs) x = lives-then x (f x h) (fold f x (h ∷ hs)) (each x h) (lives-fold f each hs (f x h))

pub lives-ended : (c : Handle) (x : Client) → LivesBack x (ended c x)
lives-ended c x = go (under x.circuits c)
  where
    y : Client
    y = without_ids c x

    mid : Client
    mid = fold without_channel y (channels_on is_cleared c y)

    all : LivesBack x (channels_ended c y)
    all = lives-then x y (channels_ended c y) (lives-same x y refl)
        (lives-then y mid (channels_ended c y) (lives-fold without_channel lives-gone (channels_on is_cleared c y) y) (lives-fold searched_again lives-again (channels_on (λ (p : Phase). not (is_cleared p)) c y) mid))

    go : (o : Option ClientCircuit) → LivesBack x (unwrap_or (option_map (λ (d : ClientCircuit). let_go c d (channels_ended c (without_ids c x))) o) x)
    go None = lives-same x x refl
    go (Some d) = lives-then x (channels_ended c y) (let_go c d (channels_ended c y)) all (lives-same (channels_ended c y) (let_go c d (channels_ended c y)) (channels-let-go c d (channels_ended c y)))

-- ---- nothing is live on a circuit that has ended

searched-dead : (y : Client) (h on : Handle) (sid : ℕ) → IsLiveAs (searched_again y h).channels on h sid → ⊥
searched-dead y h on sid l = elim (changed-back (λ (w : Channel). record w { standing = Searching }) y.channels h h l.ch l.there) [
  | inl own ↦ (let e : Searching ≡ On on (Live l.native l.rights) = ap (λ (z : Channel). z.standing) (sym own.1.2) ∙ l.stands in cc)
  | inr old ↦ old.0 refl
]

again-dead : (hs : List Handle) (y : Client) (i : ℕ) (h : Handle) → At hs i h → (on : Handle) (sid : ℕ) → IsLiveAs (fold searched_again y hs).channels on h sid → ⊥
again-dead [] y i h at on sid l = none_at i h at
again-dead (g ∷ hs) y zero h at on sid l =
    let back = (lives-fold searched_again lives-again hs (searched_again y g)).back on h sid l in
    searched-dead y g on sid (subst (λ (k : Handle). IsLiveAs (searched_again y g).channels on k sid) (sym (some_is g h at)) back)
again-dead (g ∷ hs) y (suc i) h at on sid l = again-dead hs (searched_again y g) i h at on sid l

linked-there : (x : Client) (c : Handle) → is_none (connection_at x c) ≡ false → (d : ClientCircuit) × (under x.circuits c ≡ Some d)
linked-there x c linked = go (under x.circuits c) refl linked
  where
    go : (o : Option ClientCircuit) → under x.circuits c ≡ o → is_none (option_and_then (λ (z : ClientCircuit). z.connection) o) ≡ false → (d : ClientCircuit) × (under x.circuits c ≡ Some d)
    go None there is = absurd (both_ways true is refl)
    go (Some d) there is = (d, there)

ended-dead : (c : Handle) (x : Client) → is_none (connection_at x c) ≡ false → (h : Handle) → IsLiveOn (ended c x).channels c h → ⊥
ended-dead c x linked h live =
    let sid : ℕ = live.0 in
    let was : IsLiveAs x.channels c h sid = (lives-ended c x).back c h sid live.1 in
    let y : Client = without_ids c x in
    let d = linked-there x c linked in
    let stays : Phase → Bool = λ (p : Phase). not (is_cleared p) in
    let listed = listed-there stays c y h was.ch was.there (is-on stays c was.ch (Live was.native was.rights) was.stands) in
    let now : IsLiveAs (let_go c d.0 (channels_ended c y)).channels c h sid = subst (λ (o : Option ClientCircuit). IsLiveAs (unwrap_or (option_map (λ (d : ClientCircuit). let_go c d (channels_ended c (without_ids c x))) o) x).channels c h sid) d.1 live.1 in
    again-dead (channels_on stays c y) (fold without_channel y (channels_on is_cleared c y)) listed.0 h listed.1 c sid (subst (λ (t : Table Channel). IsLiveAs t c h sid) (channels-let-go c d.0 (channels_ended c y)) now)

-- ---- a moment

-- It was told as this circuit ended, which was connected, and is among those that ended.
pub record PartsIn (x : Client) (closings : List Left) (said : Notice) : Type 0 where
  pub c : Handle
  pub l : ℕ
  pub e : Left
  pub at : At closings l e
  pub is : e.circuit ≡ c
  pub linked : is_none (connection_at x c) ≡ false
  pub from : FromFarewell x c said

record SoFar (x : Client) (t : Ticking) : Type 0 where
  opens : Opens x t.core
  lives : LivesBack x t.core
  links : (c : Handle) → is_none (connection_at t.core c) ≡ false → is_none (connection_at x c) ≡ false
  parts : (p : ℕ) (said : Notice) → At t.notices p said → PartsIn x t.closings said
  once : AreLostApart t.notices
  dead : (p : ℕ) (on h : Handle) → At t.notices p (notice.Lost h) → IsLiveOn t.core.channels on h → ⊥

-- it was so of the client before
from-back : (x y : Client) (c : Handle) (said : Notice) → Opens x y → LivesBack x y → FromFarewell y c said → FromFarewell x c said
from-back x y c said opens lives (inl f) =
    let r = f.2 in
    let b = opens.back f.0 r.0 r.1 r.3 in
    inl (f.0, f.1, (b.0, b.1, ap (λ (k : Handle). same_handle k c) (sym b.4) ∙ r.2, b.2))
from-back x y c said opens lives (inr f) = inr (f.0, f.1, (f.2.0, lives.back c f.0 f.2.0 f.2.1))

ticks-so : (x : Client) (t : Ticking) (c : Handle) → SoFar x t → SoFar x (ticks t c)
ticks-so x t c m = go (connection_at t.core c) refl
  where
    by : is_none (connection_at t.core c) ≡ false → (k : Keep) → SoFar x (ticks_as k c t)
    by linked Idle = m
    by linked Echo =
        let noted : Client = on_connection (λ (e : Connection). record e { link = record e.link { echoed = true } }) c t.core in
        let sends : List notice.Sending = of_circuit c (header_only command.Echo) ∷ [] in
        record {
          opens = opens-then x noted (sending sends noted) (opens-then x t.core noted m.opens (opens-same t.core noted refl refl)) (opens-sending sends noted);
          lives = lives-then x t.core (sending sends noted) m.lives (lives-then t.core noted (sending sends noted) (lives-same t.core noted refl) (lives-same noted (sending sends noted) (channels-sending sends noted)));
          links = λ d is. m.links d (sym ((keeps-on _ c t.core).links d) ∙ sym ((keeps-sending sends noted).links d) ∙ is);
          parts = m.parts;
          once = m.once;
          dead = λ p on h at l. m.dead p on h at (l.0, (lives-then t.core noted (sending sends noted) (lives-same t.core noted refl) (lives-same noted (sending sends noted) (channels-sending sends noted))).back on h l.0 l.1);
        }
    by linked Close =
        let left : Left = record { circuit = c; bytes = out_bytes t.core c } in
        record {
          opens = opens-then x t.core (ended c t.core) m.opens (opens-ended c t.core);
          lives = lives-then x t.core (ended c t.core) m.lives (lives-ended c t.core);
          links = λ d is. m.links d (ended-linked c d t.core is).1;
          parts = λ p said at. elim (At-parts t.notices (farewell c t.core) p said at) [
            | inl first ↦ (let o = m.parts p said first in record { c = o.c; l = o.l; e = o.e; at = At-append t.closings (left ∷ []) o.l o.e o.at; is = o.is; linked = o.linked; from = o.from })
            | inr more ↦ record {
              c = c;
              l = _;
              e = left;
              at = At-last t.closings left;
              is = refl;
              linked = m.links c linked;
              from = from-back x t.core c said m.opens m.lives (farewell-from c t.core more.0 said more.2);
            }
          ];
          once = λ p q h lt at_p at_q. elim (At-parts t.notices (farewell c t.core) p (notice.Lost h) at_p) [
            | inl first ↦ elim (At-parts t.notices (farewell c t.core) q (notice.Lost h) at_q) [
              | inl next ↦ m.once p q h lt first next
              | inr last ↦ m.dead p c h first (farewell-live c t.core last.0 h last.2)
            ]
            | inr more ↦ elim (At-parts t.notices (farewell c t.core) q (notice.Lost h) at_q) [
              | inl next ↦ (let after_it : p ≡ length t.notices + more.0 = more.1 in let within : q < length t.notices = At-within t.notices q (notice.Lost h) next in omega (arith, after_it, within, lt))
              | inr last ↦ (let after_it : p ≡ length t.notices + more.0 = more.1 in let late : q ≡ length t.notices + last.0 = last.1 in farewell-apart c t.core more.0 last.0 h (omega (arith, after_it, late, lt)) more.2 last.2)
            ]
          ];
          dead = λ p on h at l. elim (At-parts t.notices (farewell c t.core) p (notice.Lost h) at) [
            | inl first ↦ m.dead p on h first (l.0, (lives-ended c t.core).back on h l.0 l.1)
            | inr more ↦
                let here = farewell-live c t.core more.0 h more.2 in
                let one = one-sid t.core.channels on c h l.0 here.0 ((lives-ended c t.core).back on h l.0 l.1) here.1 in
                ended-dead c t.core linked h (subst (λ (k : Handle). IsLiveOn (ended c t.core).channels k h) one.0 l)
          ];
        }

    go : (o : Option Connection) → connection_at t.core c ≡ o → SoFar x (unwrap_or (option_map (λ (e : Connection). ticks_as (kept t.core.moment e.link) c t) o) t)
    go None is = m
    go (Some e) is = by (ap is_none is) (kept t.core.moment e.link)

ticks-all-so : (x : Client) (order : List Handle) (t : Ticking) → SoFar x t → SoFar x (fold ticks t order)
ticks-all-so x [] t m = m
ticks-all-so x (c ∷ order) t m = ticks-all-so x order (ticks t c) (ticks-so x t c m)

ticked-so : (moment : ℕ) (x : Client) → SoFar x (circuits_ticked moment x)
ticked-so moment x =
    let y : Client = record x { moment = later moment x } in
    let first : Ticking = record { core = y; sent = []; notices = []; closings = [] } in
    ticks-all-so x x.order first (record {
      opens = opens-same x y refl refl;
      lives = lives-same x y refl;
      links = λ c is. is;
      parts = λ p said at. absurd (none_at p said at);
      once = λ p q h lt at_p at_q. none_at p (notice.Lost h) at_p;
      dead = λ p on h at l. none_at p (notice.Lost h) at;
    })

pub ticked-parts : (moment : ℕ) (x : Client) (p : ℕ) (said : Notice) → At (circuits_ticked moment x).notices p said → PartsIn x (circuits_ticked moment x).closings said
ticked-parts moment x = (ticked-so moment x).parts

pub ticked-apart : (moment : ℕ) (x : Client) → AreLostApart (circuits_ticked moment x).notices
ticked-apart moment x = (ticked-so moment x).once
