-- Circuits one after another: each round of a loop is one step of a tick.
use Rattle.std.proofs.Common.{◌≡◌, ◌≢◌, ◌∙◌, ℕ, suc, zero, ◌+◌, ◌<◌, Bool, true, false, cond, List, [], ◌∷◌, ◌++◌, Some, ap, arith, drop, fold, get_or, length, refl, subst, sym, take}
use Rattle.std.specs.Prelude.{slice_get}
use Rattle.std.proofs.lemmas.List.Sums.{fold-append}
use Rattle.ca_text.proofs.Places.{some_is}
use Rattle.ca_arena.specs.declared.handle.Handle.{Handle}
use Rattle.ca_search.specs.Searches.{Wanted}
use Rattle.ca_model.specs.Client.{Client}
use Rattle.ca_model.specs.ClientEnds.{Ticking, all_searched_on, echoes, searches_on, with_sending, of_circuit}
use Rattle.ca_model.specs.ClientCalls.{is_over}
use Rattle.ca_wire.specs.Fields.{Fields}
use Rattle.ca_wire.specs.Messages.{search_request}
use Rattle.ca_client_core.specs.declared.marks.CircuitMark.{CircuitMark}
use Rattle.ca_client_tables.specs.Ends.{with_messages}
use Rattle.ca_client_core.specs.Marks.{circuit_restored, mark_at, undone}
use Rattle.ca_client_core.specs.Moments.{EchoIsDue, all_echoed, all_searched, echo_step, is_echo_due, is_searched_on, search_step}
use Rattle.ca_client_core.specs.Silences.{echoed}
use Rattle.ca_client_core.proofs.Marked.{echoes-is, restored-echo, restored-messages, undone-more}
use Rattle.ca_client_core.proofs.Moments.{echo-order, echo-some}
use Rattle.ca_client_core.proofs.Prepared.{begins}
use Rattle.ca_client_tables.proofs.Queued.{messages-none}

-- ---- lists

module _ {A : Type 0} where
  take-next : (xs : List A) (i : ℕ) (x : A) → slice_get xs i ≡ Some x → take (suc i) xs ≡ take i xs ++ x ∷ []
  take-next [] i x found = absurd cc
  take-next (y ∷ xs) zero x found = ap (λ (z : A). z ∷ []) (some_is y x found)
  take-next (y ∷ xs) (suc i) x found = ap (λ (ys : List A). y ∷ ys) (take-next xs i x found)

  split-at : (xs : List A) (i : ℕ) (x : A) → slice_get xs i ≡ Some x → take i xs ++ x ∷ drop (suc i) xs ≡ xs
  split-at [] i x found = absurd cc
  split-at (y ∷ xs) zero x found = ap (λ (z : A). z ∷ xs) (sym (some_is y x found))
  split-at (y ∷ xs) (suc i) x found = ap (λ (ys : List A). y ∷ ys) (split-at xs i x found)

  pub there : (xs : List A) (i : ℕ) (d : A) → i < length xs → slice_get xs i ≡ Some (get_or xs i d)
  there [] i d within = absurd (omega (arith, within))
  there (y ∷ xs) zero d within = refl
  there (y ∷ xs) (suc i) d within = there xs i d (omega (arith, within))

pub fold-next : {S A : Type 0} (f : S → A → S) (xs : List A) (i : ℕ) (x : A) (s : S) → slice_get xs i ≡ Some x → fold f s (take (i + 1) xs) ≡ f (fold f s (take i xs)) x
fold-next f xs i x s found =
    ap (λ (n : ℕ). fold f s (take n xs)) {x = i + 1} {y = suc i} (omega arith)
    ∙ ap (fold f s) (take-next xs i x found)
    ∙ fold-append f s (take i xs) (x ∷ [])

pub nil-is : {A : Type 0} (xs : List A) → length xs ≡ 0 → xs ≡ []
nil-is [] e = refl
nil-is (x ∷ xs) e = absurd (omega (arith, e))

-- ---- one circuit

restored-same : (x : Client) (c : Handle) → circuit_restored (mark_at x c) x ≡ x
restored-same x c = ap (circuit_restored (mark_at x c)) (sym (messages-none x c)) ∙ restored-messages x c []

-- nothing was sent after a mark
pub undone-still : (ms ns : List CircuitMark) (x y : Client) (c : Handle) (m : CircuitMark) → ns ≡ ms ++ m ∷ [] → m ≡ mark_at x c → y ≡ x → undone ns y ≡ undone ms x
undone-still ms ns x y c m is at same =
    undone-more ms ns x y c (is ∙ ap (λ (n : CircuitMark). ms ++ n ∷ []) at) (ap (circuit_restored (mark_at x c)) same ∙ restored-same x c)

pub undone-echo : (ms ns : List CircuitMark) (x y : Client) (c : Handle) (m : CircuitMark) → ns ≡ ms ++ m ∷ [] → m ≡ mark_at x c → y ≡ echoed c x → undone ns y ≡ undone ms x
undone-echo ms ns x y c m is at same =
    undone-more ms ns x y c (is ∙ ap (λ (n : CircuitMark). ms ++ n ∷ []) at) (ap (circuit_restored (mark_at x c)) same ∙ restored-echo x c)

pub undone-search : (ms ns : List CircuitMark) (x y : Client) (c : Handle) (m : CircuitMark) (fs : List Fields) → ns ≡ ms ++ m ∷ [] → m ≡ mark_at x c → y ≡ with_messages c fs x → undone ns y ≡ undone ms x
undone-search ms ns x y c m fs is at same =
    undone-more ms ns x y c (is ∙ ap (λ (n : CircuitMark). ms ++ n ∷ []) at) (ap (circuit_restored (mark_at x c)) same ∙ restored-messages x c fs)

pub echo-not : (x : Client) (c : Handle) (t : Ticking) → is_echo_due x c ≡ false → t.core ≡ x → x ≡ (echo_step t c).core
echo-not x c t due is =
    sym is
    ∙ ap (λ (b : Bool). (cond b (echoes c t) t).core) (sym (ap (λ (y : Client). is_echo_due y c) is ∙ due))

pub echo-now : (x y : Client) (c : Handle) (t : Ticking) → is_echo_due x c ≡ true → y ≡ echoed c x → t.core ≡ x → y ≡ (echo_step t c).core
echo-now x y c t due does is =
    let now : is_echo_due t.core c ≡ true = ap (λ (z : Client). is_echo_due z c) is ∙ due in
    does
    ∙ ap (echoed c) (sym is)
    ∙ sym (echoes-is c t now)
    ∙ ap (λ (b : Bool). (cond b (echoes c t) t).core) (sym now)

pub search-not : (ws : List Wanted) (x : Client) (c : Handle) (t : Ticking) → is_searched_on x c ≡ false → t.core ≡ x → x ≡ (search_step ws t c).core
search-not ws x c t off is =
    sym is
    ∙ ap (λ (b : Bool). (cond b (all_searched_on ws t c) t).core) (sym (ap (λ (y : Client). is_searched_on y c) is ∙ off))

-- ---- ECHOs

abbrev pub EchoedFirst : List Handle → Client → Client → Type 0
EchoedFirst cs x y = (t : Ticking) → t.core ≡ x → y ≡ (all_echoed cs t).core

pub echoed-order : (cs : List Handle) (x y : Client) → EchoedFirst cs x y → y.order ≡ x.order
echoed-order cs x y so = ap (λ (z : Client). z.order) (so (begins x) refl) ∙ echo-order cs (begins x)

pub echoed-next : (i : ℕ) (c : Handle) (x y z : Client) → EchoedFirst (take i x.order) x y → slice_get y.order i ≡ Some c → ((t : Ticking) → t.core ≡ y → z ≡ (echo_step t c).core) → EchoedFirst (take (i + 1) x.order) x z
echoed-next i c x y z so at does t is =
    let found : slice_get x.order i ≡ Some c = ap (λ (cs : List Handle). slice_get cs i) (sym (echoed-order (take i x.order) x y so)) ∙ at in
    does (all_echoed (take i x.order) t) (sym (so t is))
    ∙ ap (λ (u : Ticking). u.core) (sym (fold-next echo_step x.order i c t found))

pub echo-lacks : (i : ℕ) (c : Handle) (x y : Client) → EchoedFirst (take i x.order) x y → slice_get y.order i ≡ Some c → is_echo_due y c ≡ true → EchoIsDue x
echo-lacks i c x y so at due t is =
    let found : slice_get x.order i ≡ Some c = ap (λ (cs : List Handle). slice_get cs i) (sym (echoed-order (take i x.order) x y so)) ∙ at in
    subst (λ (cs : List Handle). (all_echoed cs t).sent ≢ []) (split-at x.order i c found)
    (echo-some (take i x.order) (drop (suc i) x.order) c t (subst (λ (z : Client). is_echo_due z c ≡ true) (so t is) due))

-- ---- searches

order-searched : (c : Handle) (ws : List Wanted) (t : Ticking) → (all_searched_on ws t c).core.order ≡ t.core.order
order-searched c [] t = refl
order-searched c (w ∷ ws) t = order-searched c ws (searches_on c t w) ∙ go (is_over t.core c)
  where
    go : (b : Bool) → (cond b t (with_sending (of_circuit c (search_request w.cid w.name)) t)).core.order ≡ t.core.order
    go true = refl
    go false = refl

pub search-order : (ws : List Wanted) (cs : List Handle) (t : Ticking) → (all_searched ws cs t).core.order ≡ t.core.order
search-order ws [] t = refl
search-order ws (c ∷ cs) t = search-order ws cs (search_step ws t c) ∙ go (is_searched_on t.core c)
  where
    go : (b : Bool) → (cond b (all_searched_on ws t c) t).core.order ≡ t.core.order
    go true = order-searched c ws t
    go false = refl

-- no search is sent on no circuit
pub none-searched : (cs : List Handle) (t : Ticking) → all_searched [] cs t ≡ t
none-searched [] t = refl
none-searched (c ∷ cs) t = ap (all_searched [] cs) (go (is_searched_on t.core c)) ∙ none-searched cs t
  where
    go : (b : Bool) → cond b t t ≡ t
    go true = refl
    go false = refl
