-- Lists of handles, of which those count that are open, as the table changes.
use Rattle.std.proofs.Common.{◌≡◌, inl, inr, Bool, true, cond, List, [], ◌∷◌, ◌++◌, map, Ok, refl, sym, ap, ◌∙◌, subst, arith, filter}
use Rattle.std.proofs.lemmas.List.Elements.{filter-append}
use Rattle.ca_arena.specs.declared.handle.Handle.{Handle}
use Rattle.ca_ids.specs.Table.{MayGive, Table, under, with_freed, with_held}
use Rattle.ca_ids.specs.Holding.{Fills}
use Rattle.ca_requests.specs.Calls.{Issued, Issues, issued_last, open_of, with_table, without}
use Rattle.ca_requests.specs.Layout.{AreGiven, WasGiven, issued_of}
use Rattle.ca_requests.specs.Requests.{Open, Request, in_order_of_issue, is_open, is_open_in}
use Rattle.ca_requests.proofs.Tables.{Dims, Grows, any, given-new, grows-freed, grows-held, grows-map, open-beside, open-freed, open-held, open-map, opens-any, true_or_false}

-- what passes both tests, where the first passes no more than the second
pub filter-narrow : {X : Type 0} (p q : X → Bool) (xs : List X) → ((x : X) → p x ≡ true → q x ≡ true) → filter p (filter q xs) ≡ filter p xs
filter-narrow p q [] narrow = refl
filter-narrow p q (x ∷ xs) narrow =
    let rest : filter p (filter q xs) ≡ filter p xs = filter-narrow p q xs narrow in
    elim (true_or_false (q x)) [
      | inl passes ↦ rw passes (ap (λ ys. cond (p x) (x ∷ ys) ys) rest)
      | inr fails ↦ elim (true_or_false (p x)) [
        | inl both ↦ let first : q x ≡ true = narrow x both in absurd cc
        | inr neither ↦ rw (fails, neither) rest
      ]
    ]

-- ---- what was given

pub given-grows : (old new : Table Request) (xs : List Handle) → Grows old new → AreGiven old xs → AreGiven new xs
given-grows old new [] grows given = tt
given-grows old new (h ∷ xs) grows given = (omega (arith, given.0, grows h.index), given-grows old new xs grows given.1)

pub given-push : (t : Table Request) (xs : List Handle) (h : Handle) → AreGiven t xs → WasGiven t h → AreGiven t (xs ++ h ∷ [])
given-push t [] h given last = (last, tt)
given-push t (x ∷ xs) h given last = (given.0, given-push t xs h given.1 last)

pub given-filter : (t : Table Request) (p : Handle → Bool) (xs : List Handle) → AreGiven t xs → AreGiven t (filter p xs)
given-filter t p [] given = tt
given-filter t p (h ∷ xs) given =
    let rest = given-filter t p xs given.1 in
    elim (true_or_false (p h)) [ inl passes ↦ rw passes (given.0, rest) | inr fails ↦ rw fails rest ]

-- ---- the table thins

-- the open ones of what is listed, where what is open was open
pub still : (t u : Table Request) (listed : List Handle) → ((q : Handle) → is_open any u q ≡ true → is_open any t q ≡ true) → issued_of u listed ≡ with_table u (issued_of t listed)
still t u listed narrow =
    ap (λ (order : List Handle). let x : Issued = record { table = u; order = order } in x) (sym (filter-narrow (is_open any u) (is_open any t) listed narrow))

pub still-freed : (t u : Table Request) (listed : List Handle) (h : Handle) → u ≡ with_freed h t → issued_of u listed ≡ without h (issued_of t listed)
still-freed t u listed h is =
    subst (λ (w : Table Request). issued_of w listed ≡ without h (issued_of t listed)) (sym is) (still t (with_freed h t) listed (open-freed t h))

pub still-map : (f : _) (t u : Table Request) (listed : List Handle) → Dims f → u ≡ map f t → issued_of u listed ≡ with_table (map f t) (issued_of t listed)
still-map f t u listed dims is =
    subst (λ (w : Table Request). issued_of w listed ≡ with_table (map f t) (issued_of t listed)) (sym is) (still t (map f t) listed (λ q. open-map f t q dims))

pub given-freed : (t u : Table Request) (listed : List Handle) (h : Handle) → u ≡ with_freed h t → AreGiven t listed → AreGiven u listed
given-freed t u listed h is given = subst (λ (w : Table Request). AreGiven w listed) (sym is) (given-grows t (with_freed h t) listed (grows-freed t h) given)

pub given-map : (f : _) (t u : Table Request) (listed : List Handle) → Dims f → u ≡ map f t → AreGiven t listed → AreGiven u listed
given-map f t u listed dims is given = subst (λ (w : Table Request). AreGiven w listed) (sym is) (given-grows t (map f t) listed (grows-map f t dims) given)

-- ---- those that are over are taken out of the list

pub tidied : (t : Table Request) (listed : List Handle) → issued_of t (in_order_of_issue any t listed) ≡ issued_of t listed
tidied t listed =
    ap (λ (order : List Handle). let x : Issued = record { table = t; order = order } in x) (filter-narrow (is_open any t) (is_open any t) listed (λ q h. h))

-- ---- a request is issued

order-held : (t : Table Request) (q : Handle) (r : Request) (xs : List Handle) → MayGive t q → AreGiven t xs → filter (is_open any (with_held q r t)) xs ≡ filter (is_open any t) xs
order-held t q r [] may given = refl
order-held t q r (h ∷ xs) may given =
    let same : is_open any (with_held q r t) h ≡ is_open any t h = open-beside t q r h may given.0 in
    let rest : filter (is_open any (with_held q r t)) xs ≡ filter (is_open any t) xs = order-held t q r xs may given.1 in
    ap (λ (b : Bool). cond b (h ∷ filter (is_open any (with_held q r t)) xs) (filter (is_open any (with_held q r t)) xs)) same
    ∙ ap (λ (ys : List Handle). cond (is_open any t h) (h ∷ ys) ys) rest

order-issued : (t : Table Request) (q : Handle) (r : Request) (xs : List Handle) → MayGive t q → AreGiven t xs → r.stage ≡ Open → filter (is_open any (with_held q r t)) (xs ++ q ∷ []) ≡ filter (is_open any t) xs ++ q ∷ []
order-issued t q r xs may given begins =
    let here : is_open any (with_held q r t) q ≡ true = open-held t q r may ∙ ap is_open_in begins in
    filter-append (is_open any (with_held q r t)) xs (q ∷ [])
    ∙ ap (λ (ys : List Handle). ys ++ filter (is_open any (with_held q r t)) (q ∷ [])) (order-held t q r xs may given)
    ∙ ap (λ (b : Bool). filter (is_open any t) xs ++ cond b (q ∷ []) []) here

pub issues : (t u : Table Request) (listed after : List Handle) (r : Request) (q : Handle) → AreGiven t listed → r.stage ≡ Open → Fills t q r (Ok tt) u → after ≡ listed ++ q ∷ [] → Issues (issued_of t listed) q r (Ok tt) (issued_of u after)
issues t u listed after r q given begins gives is = (
  gives.0,
  subst (λ (w : Table Request). issued_of w after ≡ issued_last q r (issued_of t listed)) (sym gives.1)
      (subst (λ (ys : List Handle). issued_of (with_held q r t) ys ≡ issued_last q r (issued_of t listed)) (sym is)
      (ap (λ (order : List Handle). let x : Issued = record { table = with_held q r t; order = order } in x) (order-issued t q r listed gives.0 given begins))),
)

pub issues-given : (t u : Table Request) (listed after : List Handle) (r : Request) (q : Handle) → AreGiven t listed → Fills t q r (Ok tt) u → after ≡ listed ++ q ∷ [] → AreGiven u after
issues-given t u listed after r q given gives is =
    let old : AreGiven (with_held q r t) listed = given-grows t (with_held q r t) listed (grows-held t q r gives.0) given in
    subst (λ (w : Table Request). AreGiven w after) (sym gives.1)
    (subst (λ (ys : List Handle). AreGiven (with_held q r t) ys) (sym is) (given-push (with_held q r t) listed q old (given-new t q r gives.0)))

-- ---- what is told

-- those of the open ones that are named
pub named-open : (which : Request → Bool) (t : Table Request) (listed : List Handle) → open_of which (issued_of t listed) ≡ filter (is_open which t) listed
named-open which t listed = filter-narrow (is_open which t) (is_open any t) listed (λ q h. opens-any which (under t q) h)
