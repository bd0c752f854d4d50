-- What a step comes to, by what came first.
use Rattle.std.proofs.Common.{◌≡◌, ◌∙◌, ◌+◌, ◌⊎◌, Bool, true, false, List, [], ◌∷◌, Option, Some, None, Ok, Err, ap, drop, fold, if◌then◌else◌, inl, inr, not, option_map, slice_set, refl, subst, sym, unwrap_or}
use Rattle.std.specs.Prelude.{ℕ, option_and_then}
use Rattle.std.specs.declared.alloc.AllocError.{AllocError}
use Rattle.std.proofs.lemmas.List.{set-set}
use Rattle.ca_arena.specs.declared.handle.Handle.{Handle}
use Rattle.ca_arena.specs.Arena.{Place}
use Rattle.ca_ids.specs.Table.{Table, under, with_changed, with_freed}
use Rattle.ca_model.specs.Answers as answer
use Rattle.ca_model.specs.Client.{Client, ClientCircuit, Connection, Phase, channels_ended, channels_on, closing, connection_at, disconnected, ended, is_cleared, let_go, on_connection, out_bytes, searched_again, without_channel, without_circuit, without_ids}
use Rattle.ca_model.specs.ClientEnds.{ClientSteps, EndsFor, MayEnd, StepsOn, Takes}
use Rattle.ca_model.specs.Ends as why
use Rattle.ca_model.specs.Hears.{Effect, Hears}
use Rattle.ca_wire.specs.declared.reading.Head.{Head}
use Rattle.ca_client_tables.specs.declared.first.First.TheVariants as first
use Rattle.ca_client_core.specs.Dispatch.{HearsFirst}
use Rattle.ca_client_tables.specs.First.{IsBad, without_front}
use Rattle.ca_client_core.specs.First.{FirstOn, first_on, without_first}
use Rattle.ca_client_tables.proofs.Circuits.{changed-found, changed-same, changed-twice, found-changed}
use Rattle.ca_client_core.proofs.Firsts.{taken-on, takes-on}

-- the client with this end in place of that of a circuit
abbrev pub with_end : Client → Handle → ClientCircuit → Connection → Client
with_end x c d g = record x { circuits = with_changed (λ (w : ClientCircuit). record d { connection = Some g }) c x.circuits }

-- ---- what the end of a circuit leaves does not depend on what its end was

gone-beside : (z : Client) (u : Table ClientCircuit) (hs : List Handle) → fold without_channel (record z { circuits = u }) hs ≡ record (fold without_channel z hs) { circuits = u }
gone-beside z u [] = refl
gone-beside z u (h ∷ hs) = gone-beside (without_channel z h) u hs

again-beside : (z : Client) (u : Table ClientCircuit) (hs : List Handle) → fold searched_again (record z { circuits = u }) hs ≡ record (fold searched_again z hs) { circuits = u }
again-beside z u [] = refl
again-beside z u (h ∷ hs) = again-beside (searched_again z h) u hs

gone-circuits : (z : Client) (hs : List Handle) → (fold without_channel z hs).circuits ≡ z.circuits
gone-circuits z [] = refl
gone-circuits z (h ∷ hs) = gone-circuits (without_channel z h) hs

again-circuits : (z : Client) (hs : List Handle) → (fold searched_again z hs).circuits ≡ z.circuits
again-circuits z [] = refl
again-circuits z (h ∷ hs) = again-circuits (searched_again z h) hs

module _ (x : Client) (c : Handle) (d : ClientCircuit) (found : under x.circuits c ≡ Some d) where
  freed-again : (f : ClientCircuit → ClientCircuit) → with_freed c (with_changed f c x.circuits) ≡ with_freed c x.circuits
  freed-again f =
      let first : Place ClientCircuit = record { generation = c.generation; value = Some (f d) } in
      let last : Place ClientCircuit = record { generation = c.generation; value = None } in
      let now : with_freed c (with_changed f c x.circuits) ≡ slice_set (with_changed f c x.circuits) c.index last = rw (found-changed x.circuits f c d found) refl in
      let was : with_freed c x.circuits ≡ slice_set x.circuits c.index last = rw found refl in
      now ∙ ap (λ (t : Table ClientCircuit). slice_set t c.index last) (changed-found x.circuits f c d found) ∙ set-set x.circuits c.index first last ∙ sym was

  let-go-beside : (b : Bool) (z : Client) (g : Connection) → z.circuits ≡ x.circuits → (let y : Client = record z { circuits = (with_end x c d g).circuits } in (if b then disconnected c y else without_circuit c y) ≡ (if b then disconnected c z else without_circuit c z))
  let-go-beside true z g same =
      let f = λ (w : ClientCircuit). record d { connection = Some g } in
      let none = λ (w : ClientCircuit). record w { connection = None } in
      ap (λ (t : Table ClientCircuit). let y : Client = record z { circuits = t } in y)
      (changed-twice x.circuits f none c d found ∙ changed-same x.circuits (λ (w : ClientCircuit). none (f w)) none c d found refl ∙ ap (with_changed none c) (sym same))
  let-go-beside false z g same =
      ap (λ (t : Table ClientCircuit). let y : Client = record (without_circuit c z) { circuits = t } in y)
      (freed-again (λ (w : ClientCircuit). record d { connection = Some g }) ∙ ap (with_freed c) (sym same))

  pub ended-beside : (g : Connection) → ended c (with_end x c d g) ≡ ended c x
  ended-beside g =
      let n : ClientCircuit = record d { connection = Some g } in
      let y : Client = with_end x c d g in
      let ux : Client = without_ids c x in
      let u : Table ClientCircuit = y.circuits in
      let there : under u c ≡ Some n = found-changed x.circuits (λ (w : ClientCircuit). n) c d found in
      let cleared = channels_on is_cleared c x in
      let others = channels_on (λ (p : Phase). not (is_cleared p)) c x in
      let beside : channels_ended c (without_ids c y) ≡ record (channels_ended c ux) { circuits = u } =
      ap (λ (z : Client). fold searched_again z others) (gone-beside ux u cleared) ∙ again-beside (fold without_channel ux cleared) u others in
      let stay : (channels_ended c ux).circuits ≡ x.circuits =
      again-circuits (fold without_channel ux cleared) others ∙ gone-circuits ux cleared in
      ap (λ (o : Option ClientCircuit). unwrap_or (option_map (λ (e : ClientCircuit). let_go c e (channels_ended c (without_ids c y))) o) y) there
      ∙ ap (let_go c n) beside
      ∙ let-go-beside d.is_name (channels_ended c ux) g stay
      ∙ sym (ap (λ (o : Option ClientCircuit). unwrap_or (option_map (λ (e : ClientCircuit). let_go c e (channels_ended c ux)) o) x) found)

  -- ---- its bytes

  pub out-now : (g : Connection) → out_bytes (with_end x c d g) c ≡ g.link.output
  out-now g =
      ap (λ (o : Option ClientCircuit). unwrap_or (option_map (λ (e : Connection). e.link.output) (option_and_then (λ (w : ClientCircuit). w.connection) o)) [])
      (found-changed x.circuits (λ (w : ClientCircuit). record d { connection = Some g }) c d found)

  module _ (e : Connection) (has : d.connection ≡ Some e) where
    pub end-at : connection_at x c ≡ Some e
    end-at = ap (option_and_then (λ (w : ClientCircuit). w.connection)) found ∙ has

    pub out-was : out_bytes x c ≡ e.link.output
    out-was = ap (λ (o : Option Connection). unwrap_or (option_map (λ (f : Connection). f.link.output) o) []) end-at

    end-on : (f : Connection → Connection) → with_end x c d (f e) ≡ on_connection f c x
    end-on f =
        ap (λ (t : Table ClientCircuit). let y : Client = record x { circuits = t } in y)
        (changed-same x.circuits (λ (w : ClientCircuit). record d { connection = Some (f e) }) (λ (w : ClientCircuit). record w { connection = option_map f w.connection }) c d found
        (ap (λ (o : Option Connection). let w : ClientCircuit = record d { connection = o } in w) (sym (ap (option_map f) has))))

    -- ---- the end has ended

    closed-as : (cause : why.Why) (k : answer.Closing) (new : Client) → MayEnd x c e cause → k ≡ closing cause c x → new ≡ ended c x → (sent : List answer.Sending) × ClientSteps x c (answer.Closed k) sent new
    closed-as cause k new may is left = (
      [],
      subst (λ (o : Option Connection). StepsOn x c o (answer.Closed k) [] new) (sym end-at)
          (subst (λ (j : answer.Closing). MayEnd x c e j.why × EndsFor j.why x c j [] new) (sym is) (may, (refl, refl, left))),
    )

    may-bad : (cause : why.Why) → IsBad e.link.input.bytes cause → MayEnd x c e cause
    may-bad why.Misaligned bad = bad
    may-bad why.TooLarge bad = bad
    may-bad _ bad = absurd bad

    pub steps-bad : (cause : why.Why) (k : answer.Closing) (new : Client) → IsBad e.link.input.bytes cause → k ≡ closing cause c x → new ≡ ended c x → (sent : List answer.Sending) × ClientSteps x c (answer.Closed k) sent new
    steps-bad cause k new bad ends left = closed-as cause k new (may-bad cause bad) ends left

    -- ---- its first message is taken

    module _ (head : Head) where
      abbrev rest : List ℕ
      rest = drop (head.start + head.header.size) e.link.input.bytes

      takes-it : (effect : Effect) → FirstOn x c (first.Message head) → Hears (without_first c head x) c (first_on x c head) effect → Takes x c e effect
      takes-it effect h hears = record {
        m = first_on x c head;
        rest = rest;
        first = takes-on x c e head end-at h;
        hears = subst (λ (y : Client). Hears y c (first_on x c head) effect) (taken-on x c d e head found has) hears;
      }

      pub steps-heard : (new : Client) (told : List answer.Notice) → FirstOn x c (first.Message head) → HearsFirst x c head (Ok told) new → (sent : List answer.Sending) × ClientSteps x c (answer.Notices told) sent new
      steps-heard new told h (effect, hears, says, left) =
          let took : Takes x c e effect = takes-it effect h hears in
          let same : effect ≡ record { core = new; sent = effect.sent; notices = told } =
          ap (λ (z : Client). let f : Effect = record { core = z; sent = effect.sent; notices = effect.notices } in f) (sym left)
          ∙ ap (λ (ns : List answer.Notice). let f : Effect = record { core = new; sent = effect.sent; notices = ns } in f) (sym says) in
          (effect.sent, subst (λ (o : Option Connection). StepsOn x c o (answer.Notices told) effect.sent new) (sym end-at) (subst (Takes x c e) same took))

      -- without memory the end has ended, and what was done of the message is gone with it
      ends-as : (y : Client) → (y ≡ x) ⊎ (y ≡ without_first c head x) → (closing why.OutOfMemory c y ≡ closing why.OutOfMemory c x) × (ended c y ≡ ended c x)
      ends-as y (inl same) = (ap (closing why.OutOfMemory c) same, ap (ended c) same)
      ends-as y (inr is) =
          let g : Connection = without_front head e in
          let now : y ≡ with_end x c d g = is ∙ sym (end-on (without_front head)) in
          let whole : closing why.OutOfMemory c (with_end x c d g) ≡ closing why.OutOfMemory c x =
          ap (λ (bytes : List ℕ). let m : answer.Closing = record (closing why.OutOfMemory c x) { left = bytes } in m) (out-now g ∙ sym out-was) in
          (ap (closing why.OutOfMemory c) now ∙ whole, ap (ended c) now ∙ ended-beside g)

      pub steps-out : (u : AllocError) (y new : Client) (k : answer.Closing) → FirstOn x c (first.Message head) → HearsFirst x c head (Err u) y → k ≡ closing why.OutOfMemory c y → new ≡ ended c y → (sent : List answer.Sending) × ClientSteps x c (answer.Closed k) sent new
      unfolding takes-it
      steps-out u y new k h (effect, hears, memory, same) ends left =
          closed-as why.OutOfMemory k new (effect, takes-it effect h hears, memory) (ends ∙ (ends-as y same).0) (left ∙ (ends-as y same).1)
