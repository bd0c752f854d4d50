-- Events that touch no record: servers and logs stay as they are, and circuits go on.
use Rattle.std.proofs.Common.{◌≡◌, ℕ, inl, inr, List, ◌++◌, refl, sym, ap, subst, ◌∙◌}
use Rattle.std.specs.Prelude.{map, slice_set}
use Rattle.ca_text.specs.Place.{At}
use Rattle.ca_text.proofs.Places.{At-append, At-map, At-mapped, At-one, At-set, At-set-other}
use Rattle.ca_model.specs.Answers.{Sending}
use Rattle.ca_model.specs.History.{Entry, Line, Step}
use Rattle.ca_model.specs.ServerSteps.{HasEnd}
use Rattle.ca_model.specs.ClientEvents.{Outcomes, client_after, client_closed, sent_on}
use Rattle.ca_model.specs.World.{ClientSide, Joined, Names, ServerSide, Setting, World, with_circuit, with_lines}
use Rattle.ca_laws_parts.specs.Lives.{Later}
use Rattle.ca_laws_parts.specs.Seats.{Seated, Sound}
use Rattle.ca_laws_parts.proofs.WritesEnding.{later-self}
use Rattle.ca_laws_parts.proofs.WritesEvents.{SameEnds, same-later, writes-later}
use Rattle.ca_laws_parts.proofs.Midway.{set-here}
use Rattle.ca_laws_parts.proofs.WritesMoves.{same-or}

-- A circuit goes on, and its end at the server is as it was.
pub record Goes (c d : Joined) : Type 0 where
  pub later : Later c d
  pub is_open : d.lists.server_open ≡ c.lists.server_open
  pub handled : d.lists.handled ≡ c.lists.handled
  pub down : d.lists.down ≡ c.lists.down
  pub standing : d.standing ≡ c.standing
  pub queues : d.queues ≡ c.queues
  pub creations : d.creations ≡ c.creations

pub goes-self : (c : Joined) → Goes c c
goes-self c = record { later = later-self c; is_open = refl; handled = refl; down = refl; standing = refl; queues = refl; creations = refl }

pub goes-same : (c d : Joined) → SameEnds c d → d.lists.down ≡ c.lists.down → d.standing ≡ c.standing → d.queues ≡ c.queues → d.creations ≡ c.creations → Goes c d
goes-same c d s down standing queues creations = record { later = same-later c d s; is_open = s.is_open; handled = s.handled; down = down; standing = standing; queues = queues; creations = creations }

pub later-then : (a b c : Joined) → Later a b → Later b c → Later a c
later-then a b c y z = record {
  server = z.server ∙ y.server;
  handle = z.handle ∙ y.handle;
  life = z.life ∙ y.life;
  up = λ k s h. z.up k s (y.up k s h);
  handled = λ k s h. z.handled k s (y.handled k s h);
  ended = λ e. (let u = y.ended e in let v = z.ended u.0 in (v.0, v.1 ∙ u.1));
}

pub goes-then : (a b c : Joined) → Goes a b → Goes b c → Goes a c
goes-then a b c f g = record { later = later-then a b c f.later g.later; is_open = g.is_open ∙ f.is_open; handled = g.handled ∙ f.handled; down = g.down ∙ f.down; standing = g.standing ∙ f.standing; queues = g.queues ∙ f.queues; creations = g.creations ∙ f.creations }

-- Servers and their logs stay, and each circuit goes on.
pub record Frame (w new : World) : Type 0 where
  pub servers : new.servers ≡ w.servers
  pub logs : new.server_logs ≡ w.server_logs
  pub on : (n : ℕ) (c : Joined) → At w.circuits n c → (d : Joined) × At new.circuits n d × Goes c d
  pub back : (n : ℕ) (d : Joined) → At new.circuits n d → (c : Joined) × At w.circuits n c × Goes c d

pub frame-self : (w new : World) → new.servers ≡ w.servers → new.server_logs ≡ w.server_logs → new.circuits ≡ w.circuits → Frame w new
frame-self w new servers logs circuits = record {
  servers = servers;
  logs = logs;
  on = λ n c at. (c, subst (λ (l : List Joined). At l n c) (sym circuits) at, goes-self c);
  back = λ n d at. (d, subst (λ (l : List Joined). At l n d) circuits at, goes-self d);
}

pub frame-then : (a b c : World) → Frame a b → Frame b c → Frame a c
frame-then a b c f g = record {
  servers = g.servers ∙ f.servers;
  logs = g.logs ∙ f.logs;
  on = λ n x at. (let y = f.on n x at in let z = g.on n y.0 y.1 in (z.0, z.1, goes-then x y.0 z.0 y.2 z.2));
  back = λ n z at. (let y = g.back n z at in let x = f.back n y.0 y.1 in (x.0, x.1, goes-then x.0 y.0 z x.2 y.2));
}

pub frame-map : (w new : World) (f : Joined → Joined) → new.servers ≡ w.servers → new.server_logs ≡ w.server_logs → new.circuits ≡ map f w.circuits → ((c : Joined) → Goes c (f c)) → Frame w new
frame-map w new f servers logs circuits goes = record {
  servers = servers;
  logs = logs;
  on = λ n c at. (f c, subst (λ (l : List Joined). At l n (f c)) (sym circuits) (At-map f w.circuits n c at), goes c);
  back = λ n d at. (let c = At-mapped f w.circuits n d (subst (λ (l : List Joined). At l n d) circuits at) in (c.0, c.1, subst (λ (x : Joined). Goes c.0 x) (sym c.2) (goes c.0)));
}

-- one circuit goes on
pub frame-circuit : (w : World) (k : ℕ) (j d : Joined) → At w.circuits k j → Goes j d → Frame w (with_circuit k d w)
frame-circuit w k j d at goes = record {
  servers = refl;
  logs = refl;
  on = λ n c there. elim (same-or n k) [
    | inl is ↦ (d, subst (λ (m : ℕ). At (slice_set w.circuits k d) m d) (sym is) (set-here w.circuits k j d at), subst (λ (z : Joined). Goes z d) (At-one w.circuits k j c at (subst (λ (m : ℕ). At w.circuits m c) is there)) goes)
    | inr other ↦ (c, At-set-other w.circuits k n c d there other, goes-self c)
  ];
  back = λ n c there. elim (At-set w.circuits k d n c there) [
    | inl new ↦ (j, subst (λ (m : ℕ). At w.circuits m j) (sym new.0) at, subst (λ (z : Joined). Goes j z) (sym new.1) goes)
    | inr old ↦ (c, old.0, goes-self c)
  ];
}

-- ---- what a client does

pub sent-goes : (i : ℕ) (n : Names) (sent : List Sending) (c : Joined) → Goes c (record c { lists = record c.lists { up = c.lists.up ++ sent_on i n sent c } })
sent-goes i n sent c = record {
  later = record {
    server = refl;
    handle = refl;
    life = refl;
    up = λ k s at. At-append c.lists.up (sent_on i n sent c) k s at;
    handled = λ k h at. at;
    ended = λ e. (e, refl);
  };
  is_open = refl;
  handled = refl;
  down = refl;
  standing = refl;
  queues = refl;
  creations = refl;
}

pub frame-after : (i : ℕ) (x : ClientSide) (spoken : Names) (o : Outcomes) (w : World) → Frame w (client_after i x spoken o w)
frame-after i x spoken o w =
    frame-map w (client_after i x spoken o w) (λ (c : Joined). record c { lists = record c.lists { up = c.lists.up ++ sent_on i spoken o.sent c } }) refl refl refl (sent-goes i spoken o.sent)

pub frame-lines : (life : ℕ) (lines : List Line) (w : World) → Frame w (with_lines life lines w)
frame-lines life lines w = frame-self w (with_lines life lines w) refl refl refl

pub closed-goes : (left : List ℕ) (c : Joined) → Goes c (client_closed left c)
closed-goes left c = goes-same c (client_closed left c) (record { server = refl; handle = refl; life = refl; up = refl; handled = refl; is_open = refl }) refl refl refl refl

-- ---- what that keeps

pub seated-like : (w new : World) → new.servers ≡ w.servers → ((n : ℕ) (d : Joined) → At new.circuits n d → (c : Joined) × At w.circuits n c × (d.server ≡ c.server) × (d.at_server ≡ c.at_server) × (d.lists.server ≡ c.lists.server) × (d.lists.server_open ≡ c.lists.server_open)) → Seated w → Seated new
seated-like w new servers back s = record {
  each = λ n d at opened.
      let c = back n d at in
      let seat = s.each n c.0 c.1 (sym c.5 ∙ opened) in
      record {
        y = seat.y;
        at = subst (λ (l : List ServerSide). At l d.server seat.y) (sym servers) (subst (λ (m : ℕ). At w.servers m seat.y) (sym c.2) seat.at);
        joins = c.4 ∙ seat.joins;
        e = seat.e;
        has = subst (λ (h : _). HasEnd seat.y.core h seat.e) (sym c.3) seat.has;
      };
  one = λ n m d e at there same a b handles.
      let c = back n d at in
      let x = back m e there in
      s.one n m c.0 x.0 c.1 x.1 (sym c.2 ∙ same ∙ x.2) (sym c.5 ∙ a) (sym x.5 ∙ b) (sym c.3 ∙ handles ∙ x.3);
}

pub frame-keeps : (s : Setting) (w new : World) → Frame w new → Sound s w → Sound s new
frame-keeps s w new f h = record {
  writes = writes-later w new f.servers f.logs (λ n c at. (let d = f.on n c at in (d.0, d.1, d.2.later)))
      (λ n c d at there. (let x = f.on n c at in ap (λ (z : Joined). z.lists.server_open) (At-one new.circuits n d x.0 there x.1) ∙ x.2.is_open)) h.writes;
  seated = seated-like w new f.servers (λ n d at. (let c = f.back n d at in (c.0, c.1, c.2.later.server, c.2.later.handle, c.2.later.life, c.2.is_open))) h.seated;
  within = λ n d at.
      let c = f.back n d at in
      let was = h.within n c.0 c.1 in (
        was.0,
        subst (λ (l : List (List Entry)). At l d.lists.server was.0) (sym f.logs) (subst (λ (m : ℕ). At w.server_logs m was.0) (sym c.2.later.life) was.1),
        λ k g on. was.2 k g (subst (λ (l : List Step). At l k g) c.2.handled on),
      );
  given = λ i y at. h.given i y (subst (λ (l : List ServerSide). At l i y) f.servers at);
}
