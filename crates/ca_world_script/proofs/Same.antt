-- Words are one address, and a record has one type.
use Rattle.std.proofs.Common.{◌≡◌, ℕ, List, [], ◌∷◌, inl, inr, None, refl, sym, ap, ◌∙◌, subst}
use Rattle.std.specs.Int.{from_be_bytes, w32}
use Rattle.ca_dbr.specs.Elements.{base_of}
use Rattle.ca_dbr.specs.declared.data_type.BaseType.{BaseType}
use Rattle.ca_model.specs.Ends.{Address}
use Rattle.ca_records.specs.Records.{AreApart, IsServed, Names}
use Rattle.ca_records.specs.Record.{RecordState}
use Rattle.ca_text.specs.Place.{At}
use Rattle.ca_text.proofs.Places.{At-one}
use Rattle.ca_script.specs.Grammar.{AreNumbers, IsNumber, parted}
use Rattle.ca_script.specs.Lines as lines
use Rattle.ca_script.specs.Lines.{AreEach, SaysServer}
use Rattle.ca_world_script.specs.Lines.{IsAddress}
use Rattle.ca_world_script.specs.Types.{Added, HasType, IsRecorded}
use Rattle.ca_model.specs.World.{ServerSetting}

-- a word is one number at most
pub one-number : (w v : List ℕ) (m n : ℕ) → w ≡ v → IsNumber w m → IsNumber v n → m ≡ n
one-number w v m n same a b =
    let there : IsNumber v m = subst (λ (x : List ℕ). IsNumber x m) same a in
    sym there.value ∙ b.value

pub same-numbers : (ws : List (List ℕ)) (ms ns : List ℕ) → AreNumbers ws ms → AreNumbers ws ns → ms ≡ ns
same-numbers [] [] [] a b = refl
same-numbers [] [] (n ∷ ns) a b = absurd b
same-numbers [] (m ∷ ms) ns a b = absurd a
same-numbers (w ∷ ws) [] ns a b = absurd a
same-numbers (w ∷ ws) (m ∷ ms) [] a b = absurd b
same-numbers (w ∷ ws) (m ∷ ms) (n ∷ ns) a b = λ i. one-number w w m n refl a.0 b.0 i ∷ same-numbers ws ms ns a.1 b.1 i

same-host : (v w : List ℕ) (g h : ℕ) → v ≡ w → lines.IsAddress v g → lines.IsAddress w h → g ≡ h
same-host v w g h same a b =
    let there : lines.IsAddress w g = subst (λ (x : List ℕ). lines.IsAddress x g) same a in
    there.is ∙ ap (λ (ns : List ℕ). from_be_bytes w32 ns) (same-numbers (parted 46 w) (there.a ∷ there.b ∷ there.c ∷ there.d ∷ []) (b.a ∷ b.b ∷ b.c ∷ b.d ∷ []) there.are b.are) ∙ sym b.is

pub same-server : (ws : List (List ℕ)) (g p h q : ℕ) → SaysServer ws g p → SaysServer ws h q → (g ≡ h) × (p ≡ q)
same-server ws g p h q a b =
    let word : a.word ≡ b.word = cc (a.are, b.are) in
    let parts : parted 58 a.word ≡ parted 58 b.word = ap (λ (w : List ℕ). parted 58 w) word in
    let host : a.host ≡ b.host = cc (a.parts, b.parts, parts) in
    let last : a.last ≡ b.last = cc (a.parts, b.parts, parts) in
    (same-host a.host b.host g h host a.at b.at, one-number a.last b.last p q last a.of b.of)

same-address : (w : List ℕ) (a b : Address) → IsAddress w a → IsAddress w b → a ≡ b
same-address w a b x y =
    let same = same-server (parted 32 w) a.host a.port b.host b.port x y in
    λ i. record { host = same.0 i; port = same.1 i }

pub same-addresses : (ws : List (List ℕ)) (xs ys : List Address) → AreEach IsAddress ws xs → AreEach IsAddress ws ys → xs ≡ ys
same-addresses [] [] [] a b = refl
same-addresses [] [] (y ∷ ys) a b = absurd b
same-addresses [] (x ∷ xs) ys a b = absurd a
same-addresses (w ∷ ws) [] ys a b = absurd a
same-addresses (w ∷ ws) (x ∷ xs) [] a b = absurd b
same-addresses (w ∷ ws) (x ∷ xs) (y ∷ ys) a b = λ i. same-address w x y a.1 b.1 i ∷ same-addresses ws xs ys a.2 b.2 i

pub type-recorded : (servers : List ServerSetting) (added : Added) (server : ℕ) (name : List ℕ) (c : BaseType) → added server name ≡ None → HasType servers added server name c → IsRecorded servers server name c
type-recorded servers added server name c none (inl h) = absurd cc
type-recorded servers added server name c none (inr h) = h.1

-- a record of a server has this type
pub is-recorded : (servers : List ServerSetting) (server : ℕ) (name : List ℕ) (line : ServerSetting) (records : List RecordState) (place : ℕ) (state : RecordState) (b : BaseType) → At servers server line → line.records ≡ records → Names records name place → At records place state → b ≡ base_of state.value → IsRecorded servers server name b
is-recorded servers server name line records place state b at same names there is =
    let one : names.state ≡ state = At-one records place names.state state names.at there in
    record {
      line = line;
      at = at;
      place = place;
      is = record { state = state; at = subst (λ (rs : List RecordState). At rs place state) (sym same) there; named = subst (λ (r : RecordState). r.name ≡ name) one names.named };
      typed = sym is;
    }

-- its records have one type under one name
pub only-recorded : (servers : List ServerSetting) (server : ℕ) (name : List ℕ) (line : ServerSetting) (records : List RecordState) (place : ℕ) (state : RecordState) (b : BaseType) → At servers server line → line.records ≡ records → AreApart records → Names records name place → At records place state → b ≡ base_of state.value → (c : BaseType) → IsRecorded servers server name c → c ≡ b
only-recorded servers server name line records place state b at same apart names there is c y =
    let own : y.line ≡ line = At-one servers server y.line line y.at at in
    let mine : At records y.place y.is.state = subst (λ (rs : List RecordState). At rs y.place y.is.state) (ap (λ (l : ServerSetting). l.records) own ∙ same) y.is.at in
    let place-is : y.place ≡ place = apart y.place place y.is.state names.state mine names.at (y.is.named ∙ sym names.named) in
    let state-is : y.is.state ≡ state = At-one records place y.is.state state (subst (λ (k : ℕ). At records k y.is.state) place-is mine) there in
    sym y.typed ∙ ap (λ (r : RecordState). base_of r.value) state-is ∙ sym is

-- a server that has no record of this name
pub none-recorded : (servers : List ServerSetting) (server : ℕ) (name : List ℕ) (line : ServerSetting) (records : List RecordState) → At servers server line → line.records ≡ records → (IsServed records name → ⊥) → (b : BaseType) → IsRecorded servers server name b → ⊥
none-recorded servers server name line records at same nay b y =
    let own : y.line ≡ line = At-one servers server y.line line y.at at in
    let mine : At records y.place y.is.state = subst (λ (rs : List RecordState). At rs y.place y.is.state) (ap (λ (l : ServerSetting). l.records) own ∙ same) y.is.at in
    nay (y.place, record { state = y.is.state; at = mine; named = y.is.named })
