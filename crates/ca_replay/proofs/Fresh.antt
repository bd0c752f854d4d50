-- The servers of a script have addresses of their own.
use Rattle.std.proofs.Common.{◌≡◌, ◌≤◌, ◌<◌, ◌⊎◌, inl, inr, ℕ, false, List, [], ◌∷◌, ◌++◌, length, take, refl, sym, ap, ◌∙◌, subst, arith}
use Rattle.std.proofs.Math.Seq.{take-append_seam}
use Rattle.std.proofs.lemmas.List.{take-append-le}
use Rattle.ca_model.specs.World.{ServerSetting}
use Rattle.ca_script.specs.Grammar.{Lead, lines_of, parted}
use Rattle.ca_text.specs.Place.{At}
use Rattle.ca_text.proofs.Places.{At-after, At-append, At-snoc, At-within}
use Rattle.ca_world_data.specs.Settings.{is_taken}
use Rattle.ca_world_script.specs.Scripts.{Adds, Reading, SaysScript, nothing, reading}
use Rattle.ca_world_script.specs.Servers.{TakesLine, header_only}
use Rattle.ca_world_script.specs.declared.script.Script.{Script}
use Rattle.ca_replay.specs.Settings.{AreFresh}

-- the next of fresh servers has no address of those before it
pub fresh-next : (all before rest : List ServerSetting) (y : ServerSetting) → before ++ y ∷ rest ≡ all → AreFresh all → is_taken y.address before ≡ false
fresh-next all before rest y split fresh =
    let at : At (before ++ y ∷ rest) (length before) y = subst (λ (i : ℕ). At (before ++ y ∷ rest) i y) (omega arith) (At-after before (y ∷ rest) 0 y refl) in
    let here : At all (length before) y = subst (λ (ys : List ServerSetting). At ys (length before) y) split at in
    let first : take (length before) all ≡ before = ap (λ (ys : List ServerSetting). take (length before) ys) (sym split) ∙ take-append_seam before (y ∷ rest) in
    subst (λ (ys : List ServerSetting). is_taken y.address ys ≡ false) first (fresh (length before) y here)

fresh-none : AreFresh []
fresh-none i y at = let no : i < 0 = At-within [] i y at in absurd (omega (arith, no))

fresh-less : (servers : List ServerSetting) (a : ServerSetting) → AreFresh (servers ++ a ∷ []) → AreFresh servers
fresh-less servers a fresh i y at =
    let within : i ≤ length servers = omega (arith, At-within servers i y at) in
    subst (λ (ys : List ServerSetting). is_taken y.address ys ≡ false) (take-append-le i servers (a ∷ []) within) (fresh i y (At-append servers (a ∷ []) i y at))

fresh-at : (servers : List ServerSetting) (y : ServerSetting) → AreFresh servers → is_taken y.address servers ≡ false → (i : ℕ) (x : ServerSetting) → At servers i x ⊎ ((i ≡ length servers) × (x ≡ y)) → is_taken x.address (take i (servers ++ y ∷ [])) ≡ false
fresh-at servers y fresh free i x (inl at) =
    let within : i ≤ length servers = omega (arith, At-within servers i x at) in
    subst (λ (ys : List ServerSetting). is_taken x.address ys ≡ false) (sym (take-append-le i servers (y ∷ []) within)) (fresh i x at)
fresh-at servers y fresh free i x (inr is) =
    let last : is_taken y.address (take (length servers) (servers ++ y ∷ [])) ≡ false = subst (λ (ys : List ServerSetting). is_taken y.address ys ≡ false) (sym (take-append_seam servers (y ∷ []))) free in
    subst (λ (z : ServerSetting). is_taken z.address (take i (servers ++ y ∷ [])) ≡ false) (sym is.1) (subst (λ (k : ℕ). is_taken y.address (take k (servers ++ y ∷ [])) ≡ false) (sym is.0) last)

fresh-more : (servers : List ServerSetting) (y : ServerSetting) → AreFresh servers → is_taken y.address servers ≡ false → AreFresh (servers ++ y ∷ [])
fresh-more servers y fresh free i x at = fresh-at servers y fresh free i x (At-snoc servers y i x at)

-- the last server with more lines
fresh-again : (servers others : List ServerSetting) (a b : ServerSetting) → servers ≡ others ++ a ∷ [] → b.address ≡ a.address → AreFresh servers → AreFresh (others ++ b ∷ [])
fresh-again servers others a b last same fresh =
    let whole : AreFresh (others ++ a ∷ []) = subst (λ (ys : List ServerSetting). AreFresh ys) last fresh in
    let free : is_taken a.address others ≡ false = fresh-next (others ++ a ∷ []) others [] a refl whole in
    fresh-more others b (fresh-less others a whole) (ap (λ x. is_taken x others) same ∙ free)

same-address : (server next : ServerSetting) (words : List (List ℕ)) → TakesLine server words next → next.address ≡ server.address
same-address server next words (inl takes) = ap (λ (s : ServerSetting). s.address) takes.after
same-address server next words (inr takes) = ap (λ (s : ServerSetting). s.address) takes.after

adds-fresh : (old new : Reading) (words : List (List ℕ)) → Adds old words new → AreFresh old.servers → AreFresh new.servers
adds-fresh old new words (inl adds) fresh = subst (λ (r : Reading). AreFresh r.servers) (sym adds.after) fresh
adds-fresh old new words (inr (inl adds)) fresh =
    subst (λ (r : Reading). AreFresh r.servers) (sym adds.after) (fresh-more old.servers (header_only adds.address) fresh adds.fresh)
adds-fresh old new words (inr (inr (inl adds))) fresh =
    subst (λ (r : Reading). AreFresh r.servers) (sym adds.after) (fresh-again old.servers adds.others adds.server adds.next adds.last (same-address adds.server adds.next words adds.takes) fresh)
adds-fresh old new words (inr (inr (inr (inl adds)))) fresh = subst (λ (r : Reading). AreFresh r.servers) (sym adds.after) fresh
adds-fresh old new words (inr (inr (inr (inr (inl adds))))) fresh = subst (λ (r : Reading). AreFresh r.servers) (sym adds.after) fresh
adds-fresh old new words (inr (inr (inr (inr (inr adds))))) fresh = subst (λ (r : Reading). AreFresh r.servers) (sym adds.after) fresh

lines-fresh : (lines : List (List ℕ)) (old new : Reading) → Lead Adds old lines new → AreFresh old.servers → AreFresh new.servers
lines-fresh [] old new leads fresh = subst (λ (r : Reading). AreFresh r.servers) (sym leads) fresh
lines-fresh (line ∷ lines) old new leads fresh = lines-fresh lines leads.0 new leads.2 (adds-fresh old leads.0 (parted 32 line) leads.1 fresh)

pub script-fresh : (text : List ℕ) (s : Script) → SaysScript text s → AreFresh s.servers.items
script-fresh text s says = lines-fresh (lines_of text) nothing (reading s says.0) says.1 fresh-none
