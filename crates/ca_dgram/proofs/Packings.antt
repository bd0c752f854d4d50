-- How replies are packed into datagrams.
use Rattle.std.proofs.Common.{Vec, Global, false, true, ◌==◌, drop, take, ◌≡◌, ◌≢◌, ℕ, ◌+◌, ◌<◌, ◌≤◌, ◌⊎◌, inl, inr, List, [], ◌∷◌, ◌++◌, length, map, refl, sym, ap, ◌∙◌, subst, arith}
use Rattle.std.specs.List.{flat_map}
use Rattle.std.proofs.lemmas.List.{append_assoc, length-append, length-take-le, map-append, append-nil, take-append-drop}
use Rattle.std.proofs.lemmas.Grind.{flat_map-append}
use Rattle.ca_text.specs.Limits.{datagram_replies}
use Rattle.ca_text.specs.Place.{At}
use Rattle.ca_text.proofs.Places.{At-snoc}
use Rattle.ca_wire.specs.Fields.{Fields}
use Rattle.ca_dgram.specs.Packing.{ArePacked, datagram_of}

-- datagrams of these replies, each with as many as it may have
pub record AreFull (done : List Fields) (datagrams : List (List ℕ)) : Type 0 where
  pub groups : List (List Fields)
  pub all : flat_map (λ (g : List Fields). g) groups ≡ done
  pub full : (i : ℕ) (g : List Fields) → At groups i g → length g ≡ datagram_replies
  pub are : datagrams ≡ map datagram_of groups

none-at : (i : ℕ) (g : List Fields) → At [] i g → ⊥
none-at i g at = absurd cc

pub none-full : AreFull [] []
none-full = record { groups = []; all = refl; full = λ i g at. absurd (none-at i g at); are = refl }

-- the replies of one group more
group-more : (gs : List (List Fields)) (g done : List Fields) → flat_map (λ (x : List Fields). x) gs ≡ done → flat_map (λ (x : List Fields). x) (gs ++ g ∷ []) ≡ done ++ g
group-more gs g done e = flat_map-append (λ (x : List Fields). x) gs (g ∷ []) ∙ ap (λ (t : List Fields). t ++ (g ++ [])) e ∙ ap (λ (t : List Fields). done ++ t) (append-nil g)

-- the datagram of one group more
datagram-more : (gs : List (List Fields)) (g : List Fields) (ds es : List (List ℕ)) (d : List ℕ) → ds ≡ map datagram_of gs → d ≡ datagram_of g → es ≡ ds ++ d ∷ [] → es ≡ map datagram_of (gs ++ g ∷ [])
datagram-more gs g ds es d are is e = e ∙ ap (λ (t : List (List ℕ)). t ++ d ∷ []) are ∙ ap (λ (t : List ℕ). map datagram_of gs ++ t ∷ []) is ∙ sym (map-append datagram_of gs (g ∷ []))

long-some : (g : List Fields) → length g ≡ datagram_replies → g ≢ []
long-some g full e = omega (arith, ap length e, full)

full-at : (gs : List (List Fields)) (g : List Fields) (i : ℕ) (x : List Fields) → ((k : ℕ) (y : List Fields) → At gs k y → length y ≡ datagram_replies) → length g ≡ datagram_replies → At gs i x ⊎ ((i ≡ length gs) × (x ≡ g)) → length x ≡ datagram_replies
full-at gs g i x full long (inl at) = full i x at
full-at gs g i x full long (inr last) = ap length last.1 ∙ long

pub full-more : (done g : List Fields) (ds es : List (List ℕ)) (d : List ℕ) → AreFull done ds → length g ≡ datagram_replies → d ≡ datagram_of g → es ≡ ds ++ d ∷ [] → AreFull (done ++ g) es
full-more done g ds es d were long is e =
    record {
      groups = were.groups ++ g ∷ [];
      all = group-more were.groups g done were.all;
      full = λ i x at. full-at were.groups g i x were.full long (At-snoc were.groups g i x at);
      are = datagram-more were.groups g ds es d were.are is e;
    }

pub full-packed : (done : List Fields) (ds : List (List ℕ)) → AreFull done ds → ArePacked done ds
full-packed done ds are =
    record {
      groups = are.groups;
      all = are.all;
      sizes = λ i g at. (long-some g (are.full i g at), omega (arith, are.full i g at), λ more. are.full i g at);
      are = are.are;
    }

last-at : (gs : List (List Fields)) (g : List Fields) (i : ℕ) (x : List Fields) → ((k : ℕ) (y : List Fields) → At gs k y → length y ≡ datagram_replies) → g ≢ [] → length g ≤ datagram_replies → At gs i x ⊎ ((i ≡ length gs) × (x ≡ g)) → (x ≢ []) × (length x ≤ datagram_replies) × (i + 1 < length (gs ++ g ∷ []) → length x ≡ datagram_replies)
last-at gs g i x full some short (inl at) = (long-some x (full i x at), omega (arith, full i x at), λ more. full i x at)
last-at gs g i x full some short (inr last) =
    (λ e. some (sym last.1 ∙ e), subst (λ (t : List Fields). length t ≤ datagram_replies) (sym last.1) short, λ more. absurd (omega (arith, last.0, more, length-append gs (g ∷ []))))

pub last-packed : (done g : List Fields) (ds es : List (List ℕ)) (d : List ℕ) → AreFull done ds → g ≢ [] → length g ≤ datagram_replies → d ≡ datagram_of g → es ≡ ds ++ d ∷ [] → ArePacked (done ++ g) es
last-packed done g ds es d were some short is e =
    record {
      groups = were.groups ++ g ∷ [];
      all = group-more were.groups g done were.all;
      sizes = λ i x at. last-at were.groups g i x were.full some short (At-snoc were.groups g i x at);
      are = datagram-more were.groups g ds es d were.are is e;
    }

pub split-same : (done rest front back all : List Fields) → front ≡ take datagram_replies rest → back ≡ drop datagram_replies rest → done ++ rest ≡ all → (done ++ front) ++ back ≡ all
split-same done rest front back all f b e =
    append_assoc done front back ∙ ap (λ (t : List Fields). done ++ (t ++ back)) f ∙ ap (λ (t : List Fields). done ++ (take datagram_replies rest ++ t)) b
    ∙ ap (λ (t : List Fields). done ++ t) (take-append-drop datagram_replies rest) ∙ e

pub split-full : (rest front : List Fields) → front ≡ take datagram_replies rest → datagram_replies < length rest → length front ≡ datagram_replies
split-full rest front f more = ap length f ∙ length-take-le datagram_replies rest (omega (arith, more))

pub snoc-items : (xs ys : List (Vec ℕ Global)) (v : Vec ℕ Global) → ys ≡ xs ++ v ∷ [] → map (λ (d : Vec ℕ Global). d.items) ys ≡ map (λ (d : Vec ℕ Global). d.items) xs ++ v.items ∷ []
snoc-items xs ys v e = ap (map (λ (d : Vec ℕ Global). d.items)) e ∙ map-append (λ (d : Vec ℕ Global). d.items) xs (v ∷ [])

pub not-empty : (rest : List Fields) → false ≡ (length rest == 0) → rest ≢ []
not-empty [] e is = (let bad : false ≡ true = e in cc)
not-empty (m ∷ rest) e is = omega (arith, ap length is)
