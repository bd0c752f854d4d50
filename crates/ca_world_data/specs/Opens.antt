-- Working: a call of a client that opens a channel, as what becomes of the client and of the logs.
use Rattle.std.specs.Prelude.{◌≡◌, ◌≢◌, ◌⊎◌, ◌++◌, List, [], ◌∷◌, Ok, Err, Result, length}
use Rattle.ca_arena.specs.declared.handle.Handle.{Handle}
use Rattle.ca_text.specs.declared.refusal.Refusal.{Refusal}
use Rattle.ca_text.specs.declared.refusal.Refusal.TheVariants.{OutOfMemory}
use Rattle.ca_model.specs.ClientCalls.{ClientOpens, Opening}
use Rattle.ca_model.specs.History.{Line}
use Rattle.ca_model.specs.History as history
use Rattle.ca_model.specs.World.{ClientSide, grown}

-- refused, and that is in the log
pub record OpenRefused (a : Opening) (x : ClientSide) (logs : List (List Line)) (x' : ClientSide)
    (logs' : List (List Line)) : Type 0 where
  pub e : Refusal
  pub other : e ≢ OutOfMemory
  pub refused : ClientOpens x.core a (Err e) [] x.core
  pub side : x' ≡ x
  pub logged : logs' ≡ grown x.life (history.Refused e ∷ []) logs

-- done, under this handle
pub record OpenDone (a : Opening) (x : ClientSide) (logs : List (List Line)) (x' : ClientSide)
    (logs' : List (List Line)) : Type 0 where
  pub h : Handle
  pub opens : ClientOpens x.core a (Ok h) [] x'.core
  pub side : x'
      ≡ record x {
        core = x'.core;
        names = record x.names { channels = x.names.channels ++ h ∷ [] };
      }
  pub logged : logs' ≡ grown x.life (history.Opened (length x.names.channels) a.name ∷ []) logs

abbrev pub OpensOn : Opening → ClientSide → List (List Line) → Result (Unit {0}) Refusal
    → ClientSide → List (List Line) → Type 0
OpensOn a x logs (Ok _) x' logs' = OpenRefused a x logs x' logs' ⊎ OpenDone a x logs x' logs'
OpensOn a x logs (Err OutOfMemory) x' logs' = (x' ≡ x) × (logs' ≡ logs)
OpensOn a x logs (Err _) x' logs' = ⊥
