-- What the engine of one circuit writes for two messages.
use Rattle.std.proofs.Common.{◌≡◌, ℕ, inl, Bool, List, [], ◌∷◌, refl, sym, ap, ◌∙◌}
use Rattle.std.specs.Prelude.{true, false, None, if◌then◌else◌}
use Rattle.ca_queue.specs.Queue.{Queue}
use Rattle.ca_queue.specs.Waiting.{taken}
use Rattle.ca_records.specs.Puts.{Record}
use Rattle.ca_wire.specs.Header.{header_spelling, short_header, extended_header, number16, number32}
use Rattle.ca_wire.specs.Message.{spelled, spelling}
use Rattle.ca_wire.specs.Messages.{version_reply, version_request}
use Rattle.ca_model.specs.Answer.{AllIdle, Writes}
use Rattle.ca_model.specs.Due.{Due, Greets, Knows}
use Rattle.ca_model.specs.Server.{new_end}
use Rattle.ca_model.specs.ServerSteps.{Rests}
use Rattle.ca_model.specs.Speech.{Stored}
use Rattle.ca_model_examples.specs.ServerAnswers.{AnswersVersions, of_temp}
use Rattle.ca_model_examples.specs.ServerWorld.{first, temp_now}
use Rattle.ca_model_examples.specs.Worlds.{long}
use Rattle.ca_model_examples.proofs.DueReplies.{due-of}
use Rattle.ca_model_examples.proofs.Lists.{each-at, one-at}

-- TEMP is never busy
idle : (greeted : Bool) → AllIdle (of_temp greeted)
idle greeted r h = ap (λ (q : Record). q.busy) (one-at (temp_now (long 21)) h.0 r h.1).1

-- nothing waits in a queue
nothing-leaves : (output : List ℕ) (greeted : Bool) → Rests (record (new_end 0) { link = record (new_end 0).link { output = output }; greeted = greeted })
nothing-leaves output greeted u new l =
    let none : taken l.q.events_on l.q.waiting ≡ None =
    each-at (λ (i : ℕ) (q : Queue Stored). taken q.events_on q.waiting ≡ None) (new_end 0).queues (refl, (refl, (refl, (refl, (refl, (refl, (refl, (refl, tt)))))))) u.queue l.q l.at in
    let e = sym none ∙ l.taken_is in
    cc

-- a VERSION is due this, by whether the peer greeted before
version-due : (k : Knows) (priority : ℕ) → Due k (version_request priority) (if k.greeted then [] else version_reply ∷ []) Greets
version-due k priority = due-of k (version_request priority) (if k.greeted then [] else version_reply ∷ []) Greets (refl, refl) (λ e. absurd cc)

-- it is answered so, nothing is finished, and no update goes out
writes : (greeted : Bool) (priority : ℕ) → Writes first (of_temp greeted) (version_request priority) (spelled (if greeted then [] else version_reply ∷ [])) (of_temp true)
unfolding spelling header_spelling short_header number16 number32
writes true priority = record {
  served = of_temp true;
  serves = record {
    e = _;
    has = refl;
    link = (new_end 0).link;
    waits = refl;
    replies = [];
    action = Greets;
    handled = of_temp true;
    handles = record { due = version-due _ priority; acted = _; acts = refl; recorded = _; records = refl; leaves = refl };
    gone = λ h. false;
    goes_on = refl;
    reached = of_temp true;
    reaches = ((λ h. refl), refl);
    names = [];
    idle = of_temp true;
    finishes = refl;
    all = idle true;
    updates = [];
    pumps = inl (_, refl, (_, refl, inl (nothing-leaves [] true, refl)));
    stays = (_, refl);
  };
  e = _;
  has = refl;
  is = refl;
  leaves = refl;
}
writes false priority = record {
  served = _;
  serves = record {
    e = _;
    has = refl;
    link = (new_end 0).link;
    waits = refl;
    replies = version_reply ∷ [];
    action = Greets;
    handled = _;
    handles = record { due = version-due _ priority; acted = _; acts = refl; recorded = _; records = refl; leaves = refl };
    gone = λ h. false;
    goes_on = refl;
    reached = _;
    reaches = ((λ h. refl), refl);
    names = [];
    idle = _;
    finishes = refl;
    all = idle true;
    updates = [];
    pumps = inl (_, refl, (_, refl, inl (nothing-leaves (spelled (version_reply ∷ [])) true, refl)));
    stays = (_, refl);
  };
  e = _;
  has = refl;
  is = refl;
  leaves = refl;
}

pub answers-versions : AnswersVersions
unfolding spelling header_spelling short_header extended_header number16 number32
answers-versions = (_, [], _, writes false 0, ([], [], _, writes true 7, (refl, refl), refl), refl)
