-- What is applied is what the caller gave, to the record that the caller's channel names; and so
-- the whole clause of writes.
use Rattle.std.proofs.Common.{◌≡◌, ℕ, List, Ok, Option, refl, sym, ap, subst, ◌∙◌}
use Rattle.ca_text.specs.Place.{At}
use Rattle.ca_text.proofs.Places.{At-map, At-one}
use Rattle.ca_dbr.specs.Elements.{Elements}
use Rattle.ca_dbr.specs.Held.{kind_of}
use Rattle.ca_records.specs.Given.{given_as}
use Rattle.ca_records.specs.Record.{RecordState}
use Rattle.ca_model.specs.History.{Added, Applied, Ask, Called, Create, Entry, Intent, On, Opened, Sent, ToWrite}
use Rattle.ca_model.specs.Speech.{In, IsWritten, Stored}
use Rattle.ca_model.specs.Channels.{IsApplied, IsOwnWrite}
use Rattle.ca_model.specs.Events.{Event}
use Rattle.ca_model.specs.Runs.{AreEvents, Runs}
use Rattle.ca_model.specs.World.{IsSetting, Joined, Setting, World, circuit_of, told}
use Rattle.ca_laws_parts.specs.Lives.{IsOfMessage, LogsOnce}
use Rattle.ca_laws_parts.proofs.Going.{applied-once, came-waiting, dropped-as, finished-once, own-message}
use Rattle.ca_laws_parts.proofs.WritesLists.{At-take}
use Rattle.ca_laws_runs.proofs.StepWhole.{run-serves}
use Rattle.ca_laws_runs.proofs.ToldWrites.{run-done, run-failed}
use Rattle.ca_laws_runs.specs.Carried.{IsCarried, IsTitled, IsWrite}
use Rattle.ca_laws_runs.specs.OwnWrites.{WritesAreNotTwice, WritesAreOwn}
use Rattle.ca_laws_runs.proofs.NamesEvents.{run-keep}
use Rattle.ca_laws_runs.proofs.WritesCarried.{reads-carried, run-carried, write-carried, write-request}
use Rattle.ca_laws_runs.proofs.WritesTitled.{run-titled, write-meant}

same-state : (r q : ℕ) (a b : RecordState) → Added r a ≡ Added q b → a ≡ b
same-state r q a b is = cc

same-on : (a b : ℕ) (c d : Ask) → On a c ≡ On b d → a ≡ b
same-on a b c d is = cc

module _ (s : Setting) (es : List Event) (stopped : Option Event) (w : World) (ok : IsSetting s) (are : AreEvents es) (runs : Runs s es stopped w) where
  logs : LogsOnce w
  logs = (run-serves s es stopped w ok runs).stands.sound.writes.logs

  module _ (n k l i r : ℕ) (v : Stored) (a : IsApplied (told w) n k l i r v) where
    m : IsOfMessage w n k l i r v
    m = own-message w logs n k l i r v a

    same : a.0 ≡ m.y
    same = At-one w.server_logs l a.0 m.y a.2 m.log

    told_of : IsTitled w n k r m.y × IsWritten v
    told_of = run-titled s es stopped w ok are runs l m.y m.log n k r (Applied n k r v a.1) (i, subst (λ (y : List Entry). At y i (Applied n k r v a.1)) same a.3) (refl, refl, refl)

    t : IsTitled w n k r m.y
    t = told_of.0

    circuit : t.c ≡ m.c
    circuit = At-one w.circuits n t.c m.c t.on m.on

    lines : At w.client_logs (m.c).lists.client t.x
    lines = subst (λ (c : Joined). At w.client_logs c.lists.client t.x) circuit t.lines

    sent_is : t.s ≡ m.s
    sent_is = At-one (m.c).lists.up k t.s m.s (subst (λ (c : Joined). At c.lists.up k t.s) circuit t.sent) m.sent

    meant : (b : ℕ) × (ask : Ask) × ((m.s).intent ≡ On b ask) × (ask ≡ Create → ⊥) × IsWrite (m.s).intent
    meant = write-meant (m.s).intent (m.s).message ((run-serves s es stopped w ok runs).stands.asked n k m.c m.s m.on m.sent) m.writes

    number : meant.0 ≡ t.channel
    number = same-on meant.0 t.channel meant.1 t.ask (sym meant.2 ∙ ap (λ (z : Sent). z.intent) (sym sent_is) ∙ t.meant)

    carried : IsCarried t.x m.s
    carried = write-carried t.x m.s meant.4 (run-carried s es stopped w are runs n k m.c m.s t.x m.on m.sent lines (write-request (m.s).intent meant.4))

    given : m.given ≡ carried.given
    given = reads-carried (m.s).message carried.given m.given carried.valued carried.carries m.reads

    state : m.to ≡ t.state
    state =
        let there : At m.y (m.there).0.0 (Added r m.to) = At-take i m.y (m.there).0.0 (Added r m.to) (m.there).0.1 in
        let one : (m.there).0.0 ≡ t.added.0 = (run-keep s es stopped w ok runs l m.y m.log).one_record (m.there).0.0 t.added.0 r m.to t.state there t.added.1 in
        same-state r r m.to t.state (At-one m.y t.added.0 (Added r m.to) (Added r t.state) (subst (λ (j : ℕ). At m.y j (Added r m.to)) one there) t.added.1)

    own-write : IsOwnWrite (told w) n k l i r v
    own-write = record {
      c = circuit_of m.c;
      x = t.x;
      y = m.y;
      joins = ((At-map circuit_of w.circuits n m.c m.on, lines, subst (λ (b : ℕ). At w.server_logs b m.y) (sym m.joins) m.log), m.joins);
      channel = meant.0;
      ask = meant.1;
      given = carried.given;
      called = ((m.s, m.sent, meant.2), subst (λ (z : Intent). In t.x (Called z (ToWrite carried.given))) meant.2 carried.called);
      to = m.to;
      there = (subst (λ (z : ℕ × RecordState). In t.x (Opened z.0 (z.1).name)) (λ j. (sym number j, sym state j)) t.opened, (m.there).0, (m.there).1);
      value = subst (λ (z : Elements). given_as z (kind_of (m.to).value) ≡ Ok v.value) given m.value;
      written = told_of.1;
      came = m.came;
    }

pub run-own : (s : Setting) (es : List Event) (stopped : Option Event) (w : World) → IsSetting s → AreEvents es → Runs s es stopped w → WritesAreOwn w
run-own s es stopped w ok are runs n k l i r v a = own-write s es stopped w ok are runs n k l i r v a

-- the whole clause
pub run-not-twice : (s : Setting) (es : List Event) (stopped : Option Event) (w : World) → IsSetting s → AreEvents es → Runs s es stopped w → WritesAreNotTwice w
run-not-twice s es stopped w ok are runs = record {
  once = applied-once w (logs s es stopped w ok are runs);
  own = run-own s es stopped w ok are runs;
  waits = came-waiting w (logs s es stopped w ok are runs);
  dropped = dropped-as w (logs s es stopped w ok are runs);
  finished = finished-once w (logs s es stopped w ok are runs);
  done = run-done s es stopped w ok are runs;
  failed = run-failed s es stopped w ok are runs;
}
