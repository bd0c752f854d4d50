-- How many notices a moment makes a client tell, over all its ends that fall silent: no more than
-- its requests and channels have names.
use Rattle.std.proofs.Common.{◌≡◌, ℕ, ◌+◌, ◌≤◌, inl, inr, List, ◌++◌, length, sym, ap, subst, ◌∙◌, arith}
use Rattle.std.specs.Prelude.{map}
use Rattle.std.proofs.lemmas.List.{length-append, length-map}
use Rattle.ca_arena.specs.declared.handle.Handle.{Handle}
use Rattle.ca_dbr.specs.declared.value.Outcome.TheVariants as outcome
use Rattle.ca_text.specs.Place.{At}
use Rattle.ca_text.proofs.Places.{At-after, At-append, At-map}
use Rattle.ca_model.specs.Answers.{Notice}
use Rattle.ca_model.specs.Answers as notice
use Rattle.ca_model.specs.Client.{Client}
use Rattle.ca_model.specs.ClientEnds.{circuits_ticked}
use Rattle.ca_model.specs.History.{Intent}
use Rattle.ca_model.proofs.Thinner.{three-ways}
use Rattle.ca_model.specs.ClientEvents.{channel_number, meant_by}
use Rattle.ca_model.specs.World.{ClientSide, Names, World}
use Rattle.ca_laws_runs.specs.Quiet.{ClientsQuiet, IsRequestOn, Tidy}
use Rattle.ca_laws_runs.proofs.Farewell.{FromFarewell, PartsIn, ticked-apart, ticked-parts}
use Rattle.ca_laws_runs.proofs.OnceOver.{told-ticked}
use Rattle.ca_laws_runs.proofs.OnceTold.{AreIssued}
use Rattle.ca_world_data.specs.Ticks.{TellsFew}
use Rattle.ca_world.specs.Whole.{IsReached}
use Rattle.ca_world.proofs.Farewells.{meant-there, no-more, run-issued}

-- what may be told of all that has a name
abbrev tellable : Names → List Notice
tellable n = map (λ (e : Handle × Intent). notice.Completed e.0 outcome.Disconnected) n.requests ++ map notice.Lost n.channels

module _ (moment : ℕ) (n : Names) (x : Client) (tidy : Tidy n x) (issued : AreIssued x) where
  abbrev notices : List Notice
  notices = (circuits_ticked moment x).notices

  -- each is told of what has a name
  told-named : (c : Handle) (said : Notice) → FromFarewell x c said → (k : ℕ) × (y : Notice) × At (tellable n) k y × (said ≡ y)
  told-named c said (inl f) =
      let on : IsRequestOn n f.2.0.channel (meant_by n.requests f.0) = tidy.requests f.0 f.2.0 f.2.1 in
      let there = meant-there n.requests f.0 _ _ on.3 in
      let named : List Notice = map (λ (e : Handle × Intent). notice.Completed e.0 outcome.Disconnected) n.requests in (
        there.0,
        notice.Completed there.1.0 outcome.Disconnected,
        At-append named (map notice.Lost n.channels) there.0 (notice.Completed there.1.0 outcome.Disconnected)
            (At-map (λ (e : Handle × Intent). notice.Completed e.0 outcome.Disconnected) n.requests there.0 there.1 there.2),
        f.1 ∙ ap (λ (q : Handle). notice.Completed q outcome.Disconnected) (sym there.3),
      )
  told-named c said (inr f) =
      let here : At n.channels (channel_number n f.0) f.0 = tidy.numbered f.0 f.2.1.ch f.2.1.there in
      let named : List Notice = map (λ (e : Handle × Intent). notice.Completed e.0 outcome.Disconnected) n.requests in (
        length named + channel_number n f.0,
        notice.Lost f.0,
        At-after named (map notice.Lost n.channels) (channel_number n f.0) (notice.Lost f.0) (At-map notice.Lost n.channels (channel_number n f.0) f.0 here),
        f.1,
      )

  -- and nothing is told twice
  told-once : (c : Handle) (said : Notice) → FromFarewell x c said → (i l : ℕ) → At notices i said → At notices l said → i ≡ l
  told-once c said (inl f) i l at also =
      (told-ticked moment x).one_completed issued i l f.0 outcome.Disconnected outcome.Disconnected
      (subst (λ (z : Notice). At notices i z) f.1 at) (subst (λ (z : Notice). At notices l z) f.1 also)
  told-once c said (inr f) i l at also =
      let here : At notices i (notice.Lost f.0) = subst (λ (z : Notice). At notices i z) f.1 at in
      let there : At notices l (notice.Lost f.0) = subst (λ (z : Notice). At notices l z) f.1 also in
      elim (three-ways i l) [
        | inl before ↦ absurd (ticked-apart moment x i l f.0 before here there)
        | inr (inl same) ↦ same
        | inr (inr after) ↦ absurd (ticked-apart moment x l i f.0 after there here)
      ]

  pub moment-few : length (circuits_ticked moment x).notices ≤ length n.requests + length n.channels
  moment-few =
      let few = no-more (λ (a b : Notice). a ≡ b) notices (tellable n)
      (λ i said at. (let p : PartsIn x (circuits_ticked moment x).closings said = ticked-parts moment x i said at in told-named p.c said p.from))
      (λ i l a b y at also is too.
      let here : At notices i y = subst (λ (z : Notice). At notices i z) is at in
      let p : PartsIn x (circuits_ticked moment x).closings y = ticked-parts moment x i y here in
      told-once p.c y p.from i l here (subst (λ (z : Notice). At notices l z) too also)) in
      let a = length-append (map (λ (e : Handle × Intent). notice.Completed e.0 outcome.Disconnected) n.requests) (map notice.Lost n.channels) in
      let b = length-map n.requests (λ (e : Handle × Intent). notice.Completed e.0 outcome.Disconnected) in
      let d = length-map n.channels notice.Lost in
      omega (arith, few, a, b, d)

-- so it is in every run
pub moment-tells : (w : World) (i : ℕ) (x : ClientSide) (moment : ℕ) → IsReached w → ClientsQuiet w → At w.clients i x → TellsFew moment x
moment-tells w i x moment reached quiet at = moment-few moment x.names x.core (quiet.tidy i x at) (run-issued w i x reached at)
