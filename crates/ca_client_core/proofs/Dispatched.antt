-- What is made of a message, by its command.
use Rattle.std.proofs.Common.{◌≡◌, ◌≢◌, ◌∙◌, ℕ, ◌<◌, ◌^◌, ◌==◌, Bool, true, false, inl, inr, Global, Vec, List, [], ◌∷◌, Option, Some, None, Result, Ok, Err, refl, subst, sym}
use Rattle.std.specs.List.{list_any}
use Rattle.std.specs.Prelude.{IsErr, nat_lt}
use Rattle.std.specs.declared.alloc.AllocError.{AllocError}
use Rattle.std.proofs.lemmas.Bool.{ne_eqb}
use Rattle.ca_text.specs.Command.{command_number}
use Rattle.ca_text.specs.declared.command.Command.{Command}
use Rattle.ca_text.specs.declared.command.Command.TheVariants as command
use Rattle.ca_arena.specs.declared.handle.Handle.{Handle}
use Rattle.ca_dbr.specs.Octets.{AreBytes}
use Rattle.ca_dbr.specs.declared.value.Outcome.{Outcome}
use Rattle.ca_ids.specs.Table.{under}
use Rattle.ca_wire.specs.Fields.{Fields}
use Rattle.ca_requests.specs.Calls as requests
use Rattle.ca_requests.specs.Meaning.{MeansTo, ReadMeans}
use Rattle.ca_requests.specs.Requests.{Asked, Request, Stage, answered_by}
use Rattle.ca_requests.specs.Requests as request
use Rattle.ca_model.specs.Answers as notice
use Rattle.ca_model.specs.Client.{Client, ClientCircuit}
use Rattle.ca_model.specs.ClientEnds.{TakesMemory}
use Rattle.ca_model.specs.Ends.{Address}
use Rattle.ca_model.specs.Hears.{Answers, Completes, Effect, Finds, Hears, Updates, becomes, created, doing, subscription_on, rights_told, understood, without_request}
use Rattle.ca_model.specs.Hears as hears
use Rattle.ca_model.specs.Speech.{Is}
use Rattle.ca_wire.specs.declared.header.Header.{Header}
use Rattle.ca_wire.specs.declared.reading.Head.{Head}
use Rattle.ca_requests.specs.Meaning.{message_of}
use Rattle.ca_model.specs.Client.{Phase}
use Rattle.ca_model.specs.Client as phase
use Rattle.ca_client_tables.specs.declared.first.First.TheVariants as first
use Rattle.ca_client_core.specs.Dispatch.{HearsFirst, HearsFirstReply, HearsOr, IsReply}
use Rattle.ca_client_core.specs.First.{FirstOn, first_on, without_first}
use Rattle.ca_client_core.specs.Hearing.{FindsOr, HasEffect, HearsReplyTo}
use Rattle.ca_client_core.proofs.Firsts.{first-bytes, first-count}
use Rattle.ca_client_core.proofs.Displays.{display-means}
use Rattle.ca_client_core.proofs.Outcomes.{image-means}

-- ---- a message of none of the commands that a client understands

of-none : (n : ℕ) → n ≢ 6 → n ≢ 22 → n ≢ 18 → n ≢ 26 → n ≢ 12 → n ≢ 27 → n ≢ 15 → n ≢ 19 → n ≢ 1 → n ≢ 11 → list_any (λ (k : Command). n == command_number k) understood ≡ false
of-none n a b c d e f g h i j =
    rw (ne_eqb n 6 a, ne_eqb n 22 b, ne_eqb n 18 c, ne_eqb n 26 d, ne_eqb n 12 e, ne_eqb n 27 f, ne_eqb n 15 g, ne_eqb n 19 h, ne_eqb n 1 i, ne_eqb n 11 j) refl

pub of-no-command : (n : ℕ) → ((k : Command) → command_number k ≡ n → ⊥) → list_any (λ (k : Command). n == command_number k) understood ≡ false
of-no-command n none =
    of-none n (λ e. none command.Search (sym e)) (λ e. none command.AccessRights (sym e)) (λ e. none command.CreateChannel (sym e)) (λ e. none command.CreateChannelFail (sym e)) (λ e. none command.ClearChannel (sym e))
    (λ e. none command.ServerDisconnect (sym e)) (λ e. none command.ReadNotify (sym e)) (λ e. none command.WriteNotify (sym e)) (λ e. none command.EventAdd (sym e)) (λ e. none command.Error (sym e))

pub of-other : (k : Command)
    → (k ≡ command.Search → ⊥) → (k ≡ command.AccessRights → ⊥) → (k ≡ command.CreateChannel → ⊥) → (k ≡ command.CreateChannelFail → ⊥) → (k ≡ command.ClearChannel → ⊥)
    → (k ≡ command.ServerDisconnect → ⊥) → (k ≡ command.ReadNotify → ⊥) → (k ≡ command.WriteNotify → ⊥) → (k ≡ command.EventAdd → ⊥) → (k ≡ command.Error → ⊥)
    → list_any (λ (j : Command). command_number k == command_number j) understood ≡ false
of-other command.Search a b d f g h i j e r = absurd (a refl)
of-other command.AccessRights a b d f g h i j e r = absurd (b refl)
of-other command.CreateChannel a b d f g h i j e r = absurd (d refl)
of-other command.CreateChannelFail a b d f g h i j e r = absurd (f refl)
of-other command.ClearChannel a b d f g h i j e r = absurd (g refl)
of-other command.ServerDisconnect a b d f g h i j e r = absurd (h refl)
of-other command.ReadNotify a b d f g h i j e r = absurd (i refl)
of-other command.WriteNotify a b d f g h i j e r = absurd (j refl)
of-other command.EventAdd a b d f g h i j e r = absurd (e refl)
of-other command.Error a b d f g h i j e r = absurd (r refl)
of-other _ a b d f g h i j e r = refl

-- ---- what a value means

-- what a reply means to the request that it is about
reply-means : {Y : Type 0} (w : Vec Y Global) (a : Asked) (m : Fields) → requests.TakesMemory a m → m.count < 2 ^ 32 → AreBytes m.payload → (o : Outcome) × MeansTo a m o
reply-means w (request.Read data_type count) m (is, takes) few are = by (nat_lt 20 data_type)
  where
    by : (b : Bool) → (o : Outcome) × (Is command.ReadNotify m × ReadMeans b m o)
    by true = (let o = display-means w m few are in (o.0, (is, o.1)))
    by false = (let o = image-means w m few are in (o.0, (is, o.1)))
reply-means w request.Put m takes few are = absurd takes

updates : {Y : Type 0} (w : Vec Y Global) (x : Client) (m : Fields) → Is command.EventAdd m → m.payload ≢ [] → m.count < 2 ^ 32 → AreBytes m.payload → (s : Option Handle) → (e : Effect) × Updates x m s e
updates w x m is some few are None = (becomes x, refl)
updates w x m is some few are (Some s) =
    let o = image-means w m few are in
    (doing [] (notice.Update s o.0 ∷ []) x, (o.0, inl (inr (is, some), o.1), refl))

-- ---- what each part comes to

pub search-out : (x : Client) (c : Handle) (d : ClientCircuit) (from : Address) (m : Fields) (u : AllocError) (r : Result (List notice.Notice) AllocError) (new : Client) → Is command.Search m → under x.circuits c ≡ Some d → from ≡ d.address → FindsOr x from m (Err u) new → IsErr r → HearsOr x c m r new
search-out x c d from m u (Ok told) new is there at did err =
    let bad : false ≡ true = err in
    absurd cc
search-out x c d from m u (Err f) new is there at (e, finds, some, same) err =
    (e, hears.Search is d there (subst (λ (a : Address). Finds x a m e) at finds), inr some, same)

pub search-done : (x : Client) (c : Handle) (d : ClientCircuit) (from : Address) (m : Fields) (u : Unit {0}) (told : List notice.Notice) (new : Client) → Is command.Search m → under x.circuits c ≡ Some d → from ≡ d.address → told ≡ [] → FindsOr x from m (Ok u) new → HearsOr x c m (Ok told) new
search-done x c d from m u told new is there at nothing (e, finds, none, same) =
    (e, hears.Search is d there (subst (λ (a : Address). Finds x a m e) at finds), nothing ∙ sym none, same)

pub has-hears : (x : Client) (c : Handle) (m : Fields) (e : Effect) (r : Result (List notice.Notice) AllocError) (new : Client) → Hears x c m e → HasEffect x e r new → HearsOr x c m r new
has-hears x c m e (Ok told) new heard did = (e, heard, did.0, did.1)
has-hears x c m e (Err f) new heard did = (e, heard, inr did.0, did.1)

-- A message was taken, and then heard.
pub heard-first : (x : Client) (c : Handle) (head : Head) (r : Result (List notice.Notice) AllocError) (mid new : Client) → mid ≡ without_first c head x → HearsOr mid c (first_on x c head) r new → HearsFirst x c head r new
heard-first x c head (Ok told) mid new is heard = subst (λ (y : Client). HearsOr y c (first_on x c head) (Ok told) new) is heard
heard-first x c head (Err u) mid new is (e, hears, memory, same) =
    let m = first_on x c head in
    (e, subst (λ (y : Client). Hears y c m e) is hears, subst (λ (y : Client). TakesMemory y m e) is memory, inr (same ∙ is))

-- what its header says does not depend on its payload
pub rights-header_only : (x : Client) (c : Handle) (h : Header) (p : List ℕ) (there : Option (Handle × Phase)) → rights_told x c (message_of h []) there ≡ rights_told x c (message_of h p) there
rights-header_only x c h p None = refl
rights-header_only x c h p (Some (q, phase.Connecting)) = refl
rights-header_only x c h p (Some (q, phase.Creating rights)) = refl
rights-header_only x c h p (Some (q, phase.Live n rights)) = refl
rights-header_only x c h p (Some (q, phase.Leaving)) = refl
rights-header_only x c h p (Some (q, phase.Clearing)) = refl
rights-header_only x c h p (Some (q, phase.Doomed)) = refl

pub created-header_only : (x : Client) (c : Handle) (h : Header) (p : List ℕ) (there : Option (Handle × Phase)) → created x c (message_of h []) there ≡ created x c (message_of h p) there
created-header_only x c h p None = refl
created-header_only x c h p (Some (q, phase.Connecting)) = refl
created-header_only x c h p (Some (q, phase.Creating rights)) = refl
created-header_only x c h p (Some (q, phase.Live n rights)) = refl
created-header_only x c h p (Some (q, phase.Leaving)) = refl
created-header_only x c h p (Some (q, phase.Clearing)) = refl
created-header_only x c h p (Some (q, phase.Doomed)) = refl

-- there was no memory for the value of a reply
out-for : {Y : Type 0} (w : Vec Y Global) (x : Client) (m : Fields) (about : Option (Handle × Request)) (u : AllocError) (new : Client) → m.count < 2 ^ 32 → AreBytes m.payload → HearsReplyTo x m about (Err u) new → (y : Client) → (e : Effect) × Answers y m about e × TakesMemory x m e × (new ≡ x)
out-for w x m None u new few are did y = absurd did
out-for w x m (Some (q, r)) u new few are (stage, takes, same) y =
    let o = reply-means w r.asked m takes few are in
    let e : Effect = doing [] (notice.Completed q o.0 ∷ []) (without_request q y) in
    let tells : e.notices ≢ [] = λ none. absurd cc in
    (e, subst (λ (s : Stage). Completes y m q r.asked s e) (sym stage) (o.0, o.1, refl), inr (inr (inl tells)), same)

pub reply-out : {Y : Type 0} (w : Vec Y Global) (x : Client) (c : Handle) (head : Head) (u : AllocError) (r : Result (List notice.Notice) AllocError) (new : Client) → IsReply head.header.command → FirstOn x c (first.Message head) → HearsFirstReply x c head (Err u) new → IsErr r → HearsFirst x c head r new
reply-out w x c head u (Ok told) new is h did err =
    let bad : false ≡ true = err in
    absurd cc
reply-out w x c head u (Err f) new is h did err =
    let m = first_on x c head in
    let e = out-for w x m (answered_by c m.command m.p2 x.requests) u new (first-count x c head h) (first-bytes x c head h) did (without_first c head x) in
    (e.0, hears.Reply is e.1, e.2, inl e.3)

pub update-out : {Y : Type 0} (w : Vec Y Global) (x : Client) (c : Handle) (head : Head) (r : Result (List notice.Notice) AllocError) → head.header.command ≡ command_number command.EventAdd → FirstOn x c (first.Message head) → (first_on x c head).payload ≢ [] → IsErr r → HearsFirst x c head r x
update-out w x c head (Ok told) is h some err =
    let bad : false ≡ true = err in
    absurd cc
update-out w x c head (Err f) is h some err =
    let y = without_first c head x in
    let m = first_on x c head in
    let u = updates w y m is some (first-count x c head h) (first-bytes x c head h) (subscription_on y c m.p2) in
    (u.0, hears.Update is some u.1, inl some, inl refl)
