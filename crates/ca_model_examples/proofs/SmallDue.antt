-- What a server knew on a small circuit, whose channels are all to TEMP under the SID 5, and what was due there.
use Rattle.std.proofs.Common.{◌≡◌, ℕ, inl, inr, List, [], ◌∷◌, refl, sym, ap, subst, ◌∙◌, arith}
use Rattle.std.specs.Prelude.{true, false, Bool, Option, Some, None, ◌==◌, ◌||◌, if◌then◌else◌}
use Rattle.std.specs.Str.{bytes_eq}
use Rattle.std.specs.List.{list_any}
use Rattle.std.proofs.lemmas.Slice.Eq.{bytes_eq-Decides}
use Rattle.ca_text.specs.Place.{At}
use Rattle.ca_text.proofs.Places.{some_is}
use Rattle.ca_text.specs.Command.{command_number}
use Rattle.ca_text.specs.declared.command.Command.TheVariants as command
use Rattle.ca_queue.specs.declared.entry.SubKey.{SubKey}
use Rattle.ca_wire.specs.Header as H
use Rattle.ca_wire.specs.Fields.{Fields}
use Rattle.ca_records.specs.Record.{RecordState}
use Rattle.ca_model.specs.Due.{Action, Adds, Clears, Due, EventDue, IsCreated, KnownChannel, KnownRecord, Knows, Opens, PutDue, ReadDue, Serves, is_known, subscription_in}
use Rattle.ca_model.specs.Speech.{In, Is, name_in}
use Rattle.ca_wire.specs.Messages.{cleared_reply}
use Rattle.ca_model.specs.History.{On, Subscribe, Circuit, Entry, Sent, Added, Removed}
use Rattle.ca_model.specs.Channels.{IsOpen}
use Rattle.ca_model.specs.Known.{AreJust, IsChannel, IsDue, IsEarly, IsKey, IsRecordOf, Knew, has_created}
use Rattle.ca_model_examples.specs.Worlds.{adding, created_told, creating, long, ports, rights_told, rules, temp, temp_name}
use Rattle.ca_model_examples.proofs.Lists.{Each, each-at, none-at, one-at}

-- what is due at servers of these ports and rules
abbrev pub TrueDue : ℕ → Circuit → List Entry → Fields → List Fields → Option Fields → List Entry → Type 0
TrueDue = IsDue ports rules

-- ---- what the server knew

-- TEMP, slow or not, with this value
abbrev pub temp_with : Bool → ℕ → RecordState
temp_with slow value = record temp { slow = slow; value = (long value).value }

abbrev pub temp_now : (slow : Bool) → ℕ → (busy : Bool) → KnownRecord
temp_now slow value busy = record { state = temp_with slow value; busy = busy; waits = 0 }

-- the channel to TEMP
abbrev pub temp_channel : (retired : Bool) → KnownChannel
temp_channel retired = record { sid = 5; cid = 1; name = temp_name; retired = retired }

-- TEMP is as it is known, or is not there; it is settled how the peer is named, or not; and these channels are open.
abbrev pub knows : Option KnownRecord → Bool → List KnownChannel → Knows
knows known settled channels = record {
  port = 5064;
  rules = [];
  record_of = λ (name : List ℕ). if bytes_eq temp_name name then known else None;
  greeted = false;
  peer = record { user = []; host = [] };
  settled = settled;
  channels = channels;
  full = false;
  keys = [];
}

-- ---- lists that are just what is so

pub none-just : {A : Type 0} (IsSo : A → Type 0) → ((x : A) → IsSo x → ⊥) → AreJust [] IsSo
none-just IsSo none = record {
  each = λ x i. absurd (none-at i.0 x i.1);
  all = λ x is. absurd (none x is);
  once = λ i j x p q. absurd (none-at i x p);
}

is-temp : (x : KnownChannel) (b : Bool) → x.sid ≡ 5 → x.cid ≡ 1 → x.name ≡ temp_name → x.retired ≡ b → temp_channel b ≡ x
is-temp x b f g h i =
    subst (λ (s : ℕ). ◌≡◌ {A = KnownChannel} (record { sid = s; cid = 1; name = temp_name; retired = b }) x) f (
    subst (λ (s : ℕ). ◌≡◌ {A = KnownChannel} (record { sid = x.sid; cid = s; name = temp_name; retired = b }) x) g (
    subst (λ (s : List ℕ). ◌≡◌ {A = KnownChannel} (record { sid = x.sid; cid = x.cid; name = s; retired = b }) x) h (
    subst (λ (s : Bool). ◌≡◌ {A = KnownChannel} (record { sid = x.sid; cid = x.cid; name = x.name; retired = s }) x) i refl)))

same-bool : (a b : Bool) → (a ≡ true → b ≡ true) → (b ≡ true → a ≡ true) → a ≡ b
same-bool true true f g = refl
same-bool true false f g = sym (f refl)
same-bool false true f g = g refl
same-bool false false f g = refl

-- The only open channel is that for which the message at place k asked.
pub one-channel : (c : Circuit) (y : List Entry) (j k r : ℕ) (retired : Bool) → IsOpen c y j k 5 r → At c.up k creating
    → (retired ≡ true → In y (Removed r)) → (In y (Removed r) → retired ≡ true)
    → ((i l sid q : ℕ) → IsOpen c y i l sid q → (l ≡ k) × (sid ≡ 5) × (q ≡ r))
    → AreJust (temp_channel retired ∷ []) (IsChannel c y)
one-channel c y j k r retired is-open here f g only = record {
  each = λ x i.
      (let e = (one-at (temp_channel retired) i.0 x i.1).1 in
      subst (λ (z : KnownChannel). IsChannel c y z) (sym e) (j, k, r, creating, is-open, here, refl, refl, f, g));
  all = λ x h.
      (let is = only h.0 h.1 x.sid h.2 h.4 in
      let first : At c.up k h.3 = subst (λ (l : ℕ). At c.up l h.3) is.0 h.5 in
      let asked : h.3 ≡ creating = some_is h.3 creating (sym first ∙ here) in
      let cid : x.cid ≡ 1 = h.6 ∙ ap (λ (s : Sent). s.message.p1) asked in
      let name : x.name ≡ temp_name = h.7 ∙ ap (λ (s : Sent). name_in s.message) asked in
      let there : x.retired ≡ retired = same-bool x.retired retired
      (λ e. g (subst (λ (q : ℕ). In y (Removed q)) is.2 (h.8 e)))
      (λ e. h.9 (subst (λ (q : ℕ). In y (Removed q)) (sym is.2) (f e))) in
      (0, subst (λ (z : KnownChannel). At (temp_channel retired ∷ []) 0 z) (is-temp x retired is.1 cid name there) refl));
  once = λ i l x p q. (one-at (temp_channel retired) i x p).0 ∙ sym (one-at (temp_channel retired) l x q).0;
}

-- No EVENT_ADD was sent.
pub no-key : (c : Circuit) (y : List Entry) → Each (λ (i : ℕ) (s : Sent). (channel number : ℕ) → s.intent ≡ On channel (Subscribe number) → ⊥) c.up
    → (key : SubKey) → IsKey c y key → ⊥
no-key c y all key is =
    each-at (λ (i : ℕ) (s : Sent). (channel number : ℕ) → s.intent ≡ On channel (Subscribe number) → ⊥) c.up all is.0 is.2 is.4.2 is.4.0 is.4.1 is.4.3

-- ---- names

pub by-test : (y : List Entry) (name : List ℕ) (known other : Option KnownRecord) (b : Bool) → (b ≡ true → IsRecordOf y name known) → (b ≡ false → IsRecordOf y name other)
    → IsRecordOf y name (if b then known else other)
by-test y name known other true f g = f refl
by-test y name known other false f g = g refl

-- the name of the record of an entry, where it adds one
abbrev pub name-of : Entry → List ℕ
name-of (Added r s) = s.name
name-of e = temp_name

-- Each record of the log has the name TEMP.
abbrev pub AllTemp : List Entry → Type 0
AllTemp y = Each (λ (i : ℕ) (e : Entry). name-of e ≡ temp_name) y

records : (y : List Entry) (known : Option KnownRecord) → AllTemp y → IsRecordOf y temp_name known → (name : List ℕ) → IsRecordOf y name ((knows known true []).record_of name)
records y known all is name =
    by-test y name known None (bytes_eq temp_name name) (
    λ e. subst (λ (n : List ℕ). IsRecordOf y n known) ((bytes_eq-Decides temp_name name).0 e) is) (
    λ e r h.
    (let named : h.0.name ≡ temp_name = each-at (λ (i : ℕ) (z : Entry). name-of z ≡ temp_name) y all h.1.0 (Added r h.0) h.1.1 in
    let same : temp_name ≡ name = sym named ∙ h.2 in
    let yes-it-is : bytes_eq temp_name name ≡ true = subst (λ (m : List ℕ). bytes_eq temp_name m ≡ true) same refl in
    cc))

-- a command by which a peer names itself
abbrev pub names : ℕ → Bool
names n = n == command_number command.ClientName || n == command_number command.HostName

-- The peer named itself by none of these messages.
abbrev pub AreUnnamed : List Sent → Type 0
AreUnnamed up = Each (λ (i : ℕ) (s : Sent). names s.message.command ≡ false) up

no-names : (c : Circuit) → AreUnnamed c.up → (k : ℕ) (m : Fields) → IsEarly c k m → (Is command.ClientName m → ⊥) × (Is command.HostName m → ⊥)
no-names c all k m e =
    let unnamed : names e.0.message.command ≡ false = each-at (λ (i : ℕ) (s : Sent). names s.message.command ≡ false) c.up all k e.0 e.2 in
    let it-is : names m.command ≡ false = subst (λ (f : Fields). names f.command ≡ false) e.4 unnamed in
    ((λ f. (let bad : true ≡ false = subst (λ (n : ℕ). names n ≡ false) f it-is in cc)), (λ f. (let bad : true ≡ false = subst (λ (n : ℕ). names n ≡ false) f it-is in cc)))

-- ---- the whole

-- these records are known
pub knew-by : (c : Circuit) (y : List Entry) (known : List ℕ → Option KnownRecord) (settled : Bool) (channels : List KnownChannel) → ((name : List ℕ) → IsRecordOf y name (known name))
    → AreUnnamed c.up → false ≡ list_any (λ (s : Sent). s.message.command == command_number command.Version) c.up → settled ≡ has_created c.down
    → AreJust channels (IsChannel c y) → ((key : SubKey) → IsKey c y key → ⊥) → Knew 5064 [] c y (record (knows None settled channels) { record_of = known })
knew-by c y known settled channels are unnamed greets sets open-ones none = record {
  on_port = refl;
  by_rules = refl;
  records = are;
  greeted = greets;
  user = inr (refl, λ k r e f. (no-names c unnamed k r e).0 f);
  host = inr (refl, λ k r e f. (no-names c unnamed k r e).1 f);
  settled = sets;
  channels = open-ones;
  full = λ e. absurd cc;
  keys = none-just (IsKey c y) none;
}

-- or TEMP alone
pub knew : (c : Circuit) (y : List Entry) (known : Option KnownRecord) (settled : Bool) (channels : List KnownChannel) → AllTemp y → IsRecordOf y temp_name known
    → AreUnnamed c.up → false ≡ list_any (λ (s : Sent). s.message.command == command_number command.Version) c.up → settled ≡ has_created c.down
    → AreJust channels (IsChannel c y) → ((key : SubKey) → IsKey c y key → ⊥) → Knew 5064 [] c y (knows known settled channels)
knew c y known settled channels all is = knew-by c y (knows known settled channels).record_of settled channels (records y known all is)

-- ---- what is due, by the command

pub create-due : (k : Knows) (m : Fields) (replies : List Fields) (did : Action) → Is command.CreateChannel m → IsCreated k m replies did → Due k m replies did
create-due k m replies did is due = record {
  version = λ e. absurd (omega (arith, e, is));
  user = λ e. absurd (omega (arith, e, is));
  host = λ e. absurd (omega (arith, e, is));
  echo = λ e. absurd (omega (arith, e, is));
  search = λ e. absurd (omega (arith, e, is));
  create = λ e. inl due;
  read = λ e. absurd (omega (arith, e, is));
  write = λ e. absurd (omega (arith, e, is));
  put = λ e. absurd (omega (arith, e, is));
  subscribe = λ e. absurd (omega (arith, e, is));
  cancel = λ e. absurd (omega (arith, e, is));
  off = λ e. absurd (omega (arith, e, is));
  on = λ e. absurd (omega (arith, e, is));
  clear = λ e. absurd (omega (arith, e, is));
  other = λ e. absurd (let bad : true ≡ false = subst (λ (n : ℕ). is_known n ≡ false) is e in cc);
}

pub put-due : (k : Knows) (m : Fields) (replies : List Fields) (did : Action) → Is command.WriteNotify m → PutDue k m replies did → Due k m replies did
put-due k m replies did is due = record {
  version = λ e. absurd (omega (arith, e, is));
  user = λ e. absurd (omega (arith, e, is));
  host = λ e. absurd (omega (arith, e, is));
  echo = λ e. absurd (omega (arith, e, is));
  search = λ e. absurd (omega (arith, e, is));
  create = λ e. absurd (omega (arith, e, is));
  read = λ e. absurd (omega (arith, e, is));
  write = λ e. absurd (omega (arith, e, is));
  put = λ e. inl due;
  subscribe = λ e. absurd (omega (arith, e, is));
  cancel = λ e. absurd (omega (arith, e, is));
  off = λ e. absurd (omega (arith, e, is));
  on = λ e. absurd (omega (arith, e, is));
  clear = λ e. absurd (omega (arith, e, is));
  other = λ e. absurd (let bad : true ≡ false = subst (λ (n : ℕ). is_known n ≡ false) is e in cc);
}

pub read-due : (k : Knows) (m : Fields) (replies : List Fields) (did : Action) → Is command.ReadNotify m → ReadDue k m replies did → Due k m replies did
read-due k m replies did is due = record {
  version = λ e. absurd (omega (arith, e, is));
  user = λ e. absurd (omega (arith, e, is));
  host = λ e. absurd (omega (arith, e, is));
  echo = λ e. absurd (omega (arith, e, is));
  search = λ e. absurd (omega (arith, e, is));
  create = λ e. absurd (omega (arith, e, is));
  read = λ e. inl due;
  write = λ e. absurd (omega (arith, e, is));
  put = λ e. absurd (omega (arith, e, is));
  subscribe = λ e. absurd (omega (arith, e, is));
  cancel = λ e. absurd (omega (arith, e, is));
  off = λ e. absurd (omega (arith, e, is));
  on = λ e. absurd (omega (arith, e, is));
  clear = λ e. absurd (omega (arith, e, is));
  other = λ e. absurd (let bad : true ≡ false = subst (λ (n : ℕ). is_known n ≡ false) is e in cc);
}

pub event-due : (k : Knows) (m : Fields) (replies : List Fields) (did : Action) → Is command.EventAdd m → EventDue k m replies did → Due k m replies did
event-due k m replies did is due = record {
  version = λ e. absurd (omega (arith, e, is));
  user = λ e. absurd (omega (arith, e, is));
  host = λ e. absurd (omega (arith, e, is));
  echo = λ e. absurd (omega (arith, e, is));
  search = λ e. absurd (omega (arith, e, is));
  create = λ e. absurd (omega (arith, e, is));
  read = λ e. absurd (omega (arith, e, is));
  write = λ e. absurd (omega (arith, e, is));
  put = λ e. absurd (omega (arith, e, is));
  subscribe = λ e. inl due;
  cancel = λ e. absurd (omega (arith, e, is));
  off = λ e. absurd (omega (arith, e, is));
  on = λ e. absurd (omega (arith, e, is));
  clear = λ e. absurd (omega (arith, e, is));
  other = λ e. absurd (let bad : true ≡ false = subst (λ (n : ℕ). is_known n ≡ false) is e in cc);
}

pub clear-due : (k : Knows) (m : Fields) → Is command.ClearChannel m → Due k m (cleared_reply m ∷ []) (Clears m.p1)
clear-due k m is = record {
  version = λ e. absurd (omega (arith, e, is));
  user = λ e. absurd (omega (arith, e, is));
  host = λ e. absurd (omega (arith, e, is));
  echo = λ e. absurd (omega (arith, e, is));
  search = λ e. absurd (omega (arith, e, is));
  create = λ e. absurd (omega (arith, e, is));
  read = λ e. absurd (omega (arith, e, is));
  write = λ e. absurd (omega (arith, e, is));
  put = λ e. absurd (omega (arith, e, is));
  subscribe = λ e. absurd (omega (arith, e, is));
  cancel = λ e. absurd (omega (arith, e, is));
  off = λ e. absurd (omega (arith, e, is));
  on = λ e. absurd (omega (arith, e, is));
  clear = λ e. (refl, refl);
  other = λ e. absurd (let bad : true ≡ false = subst (λ (n : ℕ). is_known n ≡ false) is e in cc);
}

-- ---- on TEMP

-- A channel to it is created, when no other is open.
pub created-due : (slow : Bool) (value : ℕ) (settled : Bool)
    → Due (knows (Some (temp_now slow value false)) settled []) creating.message (rights_told.message ∷ created_told.message ∷ []) (Opens (temp_channel false))
created-due slow value settled = create-due (knows (Some (temp_now slow value false)) settled []) creating.message _ _ refl (record {
  known = temp_now slow value false;
  named = refl;
  cid_free = λ h. none-at h.1.0 h.0 h.1.1;
  sid = 5;
  fits = omega arith;
  sid_free = λ c h. absurd (none-at h.0 c h.1);
  are = refl;
  does = refl;
})

-- its channel is open
abbrev pub serves : (known : KnownRecord) → Serves (knows (Some known) true (temp_channel false ∷ [])) 5
serves known = record { channel = temp_channel false; open_there = (0, refl); under = refl; there = refl; known = known; named = refl }

-- A subscription begins.
pub added-due : (value : ℕ)
    → Due (knows (Some (temp_now false value false)) true (temp_channel false ∷ [])) (adding 0 9).message [] (Adds (subscription_in (adding 0 9).message temp_name))
unfolding H.number16
added-due value = event-due (knows (Some (temp_now false value false)) true (temp_channel false ∷ [])) (adding 0 9).message _ _ refl (serves (temp_now false value false), inr (refl, refl, refl))
