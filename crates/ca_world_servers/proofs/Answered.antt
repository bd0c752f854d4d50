-- How large the replies to a message are at most, from what is read before its step.
use Rattle.std.proofs.Common.{◌≡◌, ℕ, ◌+◌, ◌<◌, ◌≤◌, inl, inr, Bool, true, false, List, [], ◌∷◌, ◌++◌, Option, Some, None, Ok, length, replicate, refl, sym, ap, subst, ◌∙◌, arith}
use Rattle.std.specs.Prelude.{if◌then◌else◌, is_some, not, option_map}
use Rattle.std.proofs.lemmas.Bool.{both_ways}
use Rattle.std.proofs.lemmas.List.{length-append, length-replicate}
use Rattle.ca_arena.specs.declared.handle.Handle.{Handle}
use Rattle.ca_dbr.specs.Elements.{Elements, count_of}
use Rattle.ca_dbr.specs.Held.{display_of}
use Rattle.ca_display.specs.declared.image_type.ImageType.{ImageType}
use Rattle.ca_display.specs.Image.{size_in}
use Rattle.ca_display.specs.Types.{image_number}
use Rattle.ca_ids.specs.Table.{under}
use Rattle.ca_records.specs.Puts.{Record, record_named}
use Rattle.ca_records.specs.Faults.{first_fault, has_misfit, lacks_conversion}
use Rattle.ca_records.specs.Record.{IsRecord, RecordState}
use Rattle.ca_records.specs.Rules.{may_read}
use Rattle.ca_text.specs.Command.{command_number}
use Rattle.ca_text.specs.declared.command.Command.TheVariants as command
use Rattle.ca_text.specs.Limits.{minor_version, payload_limit}
use Rattle.ca_text.specs.Status.{bad_channel, bad_count, bad_type, get_fail, no_convert, no_read_access, normal}
use Rattle.ca_text.proofs.Places.{some_is}
use Rattle.ca_wire.specs.Fields.{Fields}
use Rattle.ca_wire.specs.Header.{header_spelling, number16}
use Rattle.ca_wire.specs.Message.{header_of}
use Rattle.ca_wire.specs.Messages.{cancel_reply, cleared_reply, error_reply, failed_reply, header_only, not_found_reply, search_reply, status_reply, value_reply, version_reply}
use Rattle.ca_wire.proofs.Headers.{header_spelling-short}
use Rattle.ca_wire.proofs.Numbers.{length-number16}
use Rattle.ca_wire.proofs.Padding.{length-padded}
use Rattle.ca_model.specs.Due.{Action, Due, KnownRecord, Knows, Serves, fault_of_read, is_known, rights_at}
use Rattle.ca_model.specs.Faults.{read_count, read_fault, read_shown, too_many}
use Rattle.ca_model.specs.Images.{image_of, image_type_of, lacks_type}
use Rattle.ca_model.specs.Server.{Server, ServerEnd}
use Rattle.ca_model.specs.ServerSteps.{HasEnd, known_record, knows}
use Rattle.ca_model.proofs.Showing.{length-image_of}
use Rattle.ca_server_circuit.proofs.Shows.{over-count, over-size}
use Rattle.ca_server_subscriptions.proofs.Imaging.{image_type-of-number, image_type-past}
use Rattle.ca_server_core.specs.Asking.{NamesUnder, record_now, state_in}
use Rattle.ca_world_data.specs.Replies.{AreWithin}
use Rattle.ca_world_servers.specs.Answering.{Answers, AreShownWithin}
use Rattle.ca_world_servers.proofs.Dealt.{any-of, commands, each-at, known-or}
use Rattle.ca_world_servers.proofs.Served.{served-name, unserved}

-- ---- single replies

module _ (n : ℕ) (ms : List Fields) where
  nothing : ms ≡ [] → AreWithin n ms
  nothing none = subst (AreWithin n) (sym none) tt

  one : (m : Fields) → ms ≡ m ∷ [] → length m.payload ≤ n → AreWithin n ms
  one m are fits = subst (AreWithin n) (sym are) fits

  bare : (m : Fields) → ms ≡ m ∷ [] → m.payload ≡ [] → AreWithin n ms
  bare m are none = one m are (let size : length m.payload ≡ 0 = ap (λ (l : List ℕ). length l) none in omega (arith, size))

  two : (a b : Fields) → ms ≡ a ∷ b ∷ [] → a.payload ≡ [] → b.payload ≡ [] → AreWithin n ms
  two a b are none last = subst (AreWithin n) (sym are) ((let size : length a.payload ≡ 0 = ap (λ (l : List ℕ). length l) none in omega (arith, size)), last)

-- an ERROR
error-size : (cid status : ℕ) (m : Fields) → length (error_reply cid status m).payload ≤ 32
error-size cid status m =
    let head : length (header_spelling (header_of m)) ≤ 24 = header_spelling-short (header_of m) in
    let both = length-append (header_spelling (header_of m)) (replicate 8 0) in
    let text : length {A = ℕ} (replicate 8 0) ≡ 8 = length-replicate {A = ℕ} 8 0 in
    omega (arith, head, both, text)

-- an answer to a SEARCH
search-size : length (number16 minor_version ++ replicate 6 0) ≤ 32
search-size =
    let both = length-append (number16 minor_version) (replicate 6 0) in
    let rest : length {A = ℕ} (replicate 6 0) ≡ 6 = length-replicate {A = ℕ} 6 0 in
    let front = length-number16 minor_version in
    omega (arith, both, rest, front)

-- ---- what is due, without a value

module _ (k : Knows) (m : Fields) (replies : List Fields) (action : Action) (due : Due k m replies action) where
  pub plain-within : (m.command ≡ command_number command.ReadNotify → ⊥) → AreWithin 32 replies
  plain-within other =
      elim (known-or (is_known m.command)) [
        | inr unknown ↦ nothing 32 replies (due.other unknown).0
        | inl known ↦ any-of m.command commands known When (each-at When commands (
          (λ e. greeted k.greeted (due.version e).0),
          (
            (λ e. elim (due.subscribe e) [
              | inl served ↦ elim served.1 [ inl refused ↦ error _ _ refused.2 | inr added ↦ nothing 32 replies added.1 ]
              | inr stray ↦ error _ _ stray.2
            ]),
            (
              (λ e. bare 32 replies (cancel_reply m) (due.cancel e).0 refl),
              (
                (λ e. elim (due.write e) [
                  | inl served ↦ elim served.1 [ inl refused ↦ error _ _ refused.2 | inr taken ↦ nothing 32 replies taken.2 ]
                  | inr stray ↦ error _ _ stray.2
                ]),
                (
                  (λ e. searched (is_some _) _ (due.search e).0),
                  (
                    (λ e. nothing 32 replies (due.off e).0),
                    (
                      (λ e. nothing 32 replies (due.on e).0),
                      (
                        (λ e. bare 32 replies (cleared_reply m) (due.clear e).0 refl),
                        (
                          (λ e. absurd (other e)),
                          (
                            (λ e. elim (due.create e) [ inl made ↦ two 32 replies _ _ made.are refl refl | inr none ↦ bare 32 replies (failed_reply m) none.are refl ]),
                            (
                              (λ e. elim (due.put e) [
                                | inl served ↦ elim served.1 [ inl refused ↦ bare 32 replies (status_reply m refused.0) refused.2 refl | inr taken ↦ put served.0.known.state.slow taken.2 ]
                                | inr stray ↦ bare 32 replies (status_reply m bad_channel) stray.2 refl
                              ]),
                              (
                                (λ e. nothing 32 replies (due.user e).0),
                                ((λ e. nothing 32 replies (due.host e).0), ((λ e. bare 32 replies (header_only command.Echo) (due.echo e).0 refl), tt)),
                              ),
                            ),
                          ),
                        ),
                      ),
                    ),
                  ),
                ),
              ),
            ),
          ),
        )) refl
      ]
    where
      When : ℕ → Type 0
      When n = m.command ≡ n → AreWithin 32 replies

      error : (cid status : ℕ) → replies ≡ error_reply cid status m ∷ [] → AreWithin 32 replies
      error cid status are = one 32 replies (error_reply cid status m) are (error-size cid status m)

      greeted : (b : Bool) → replies ≡ (if b then [] else version_reply ∷ []) → AreWithin 32 replies
      greeted true are = nothing 32 replies are
      greeted false are = bare 32 replies version_reply are refl

      searched : (a b : Bool) → replies ≡ (if a then search_reply k.port m ∷ [] else if b then not_found_reply m ∷ [] else []) → AreWithin 32 replies
      searched true b are = one 32 replies (search_reply k.port m) are search-size
      searched false true are = bare 32 replies (not_found_reply m) are refl
      searched false false are = nothing 32 replies are

      put : (b : Bool) → replies ≡ (if b then [] else status_reply m normal ∷ []) → AreWithin 32 replies
      put true are = nothing 32 replies are
      put false are = bare 32 replies (status_reply m normal) are refl

  -- with one
  pub read-within : (n : ℕ) → m.command ≡ command_number command.ReadNotify → ((c : Serves k m.p1) → AreShownWithin c.known.state m n) → AreWithin n replies
  read-within n is fits = elim (due.read is) [
    | inl served ↦
        elim served.2 [
          | inl refused ↦ bare n replies (status_reply m refused.0) refused.2 refl
          | inr value ↦ shown served.0 value.0 value.1.0 value.1.1 value.1.2 value.1.3 value.1.4
        ]
    | inr stray ↦ bare n replies (status_reply m bad_channel) stray.2 refl
  ]
    where
      shown : (c : Serves k m.p1) → fault_of_read k m c ≡ None → (t : ImageType) (e : Elements) → image_type_of m.data_type ≡ Some t → read_shown c.known.state m t ≡ Ok e → replies ≡ value_reply m (count_of e) (image_of c.known.state.value t e c.known.state.meta) ∷ [] → AreWithin n replies
      shown c none t e typed shows are =
          one n replies (value_reply m (count_of e) (image_of c.known.state.value t e c.known.state.meta)) are
          (fits c (rights_at k c.channel.name) t e typed (subst (λ (o : Option ImageType). read_fault c.known.state (rights_at k c.channel.name) m o ≡ None) typed none) shows)

-- ---- by what was read

pub plain-answers : (core : Server) (h : Handle) (m : Fields) → (m.command ≡ command_number command.ReadNotify → ⊥) → Answers core h m 32
plain-answers core h m other e replies action has due = plain-within (knows core e) m replies action due other

state-known : (o : Option Record) (k : KnownRecord) → option_map known_record o ≡ Some k → state_in o ≡ Some k.state
state-known None k is = absurd cc
state-known (Some r) k is = ap (λ (z : KnownRecord). Some z.state) (some_is (known_record r) k is)

module _ (core : Server) (h : Handle) (m : Fields) (n : ℕ) (read : m.command ≡ command_number command.ReadNotify) where
  -- no channel is served
  pub unserved-answers : NamesUnder (under core.circuits h) m.p1 None → Answers core h m n
  unserved-answers none e replies action has due = read-within (knows core e) m replies action due n read (λ c. absurd (unserved core h m none e has c))

  module _ (name : List ℕ) (named : NamesUnder (under core.circuits h) m.p1 (Some name)) where
    served-state : (e : ServerEnd) → HasEnd core h e → (c : Serves (knows core e) m.p1) → record_now core name ≡ Some c.known.state
    served-state e has c =
        state-known (record_named core.records name) c.known (ap (λ (x : List ℕ). option_map known_record (record_named core.records x)) (sym (served-name core h m name named e has c)) ∙ c.named)

    -- its record is not there
    pub recordless-answers : (let none : Option RecordState = None in none ≡ record_now core name) → Answers core h m n
    recordless-answers none e replies action has due = read-within (knows core e) m replies action due n read (λ c. (let there = none ∙ served-state e has c in absurd cc))

    -- it is this
    pub read-answers : (r : RecordState) → Some r ≡ record_now core name → AreShownWithin r m n → Answers core h m n
    read-answers r is fits e replies action has due =
        read-within (knows core e) m replies action due n read
        (λ c. subst (λ (s : RecordState). AreShownWithin s m n) (some_is r c.known.state (is ∙ served-state e has c)) fits)

-- ---- the size of an image

module _ (r : RecordState) (m : Fields) where
  -- there is no such type
  pub typeless : 34 < m.data_type → AreShownWithin r m 0
  typeless over rights t e typed none shows = absurd (never t (sym (image_type-past m.data_type over) ∙ typed))
    where
      never : (t : ImageType) → (let none : Option ImageType = None in none ≡ Some t) → ⊥
      never t e = cc

  third-none : (a b c d e : Bool) (v w x y z : ℕ) → first_fault ((a, v) ∷ (b, w) ∷ (c, x) ∷ (d, y) ∷ (e, z) ∷ []) ≡ None → c ≡ false
  third-none true b c d e v w x y z is = absurd cc
  third-none false true c d e v w x y z is = absurd cc
  third-none false false true d e v w x y z is = absurd cc
  third-none false false false d e v w x y z is = refl

  -- it asks for too much
  many : ((t : ImageType) → image_type_of m.data_type ≡ Some t → too_many r t (read_count r m) ≡ true) → AreShownWithin r m 0
  many over rights t e typed none shows =
      absurd (both_ways (too_many r t (read_count r m)) (third-none (lacks_type (display_of r.value) t) (not (may_read rights)) (too_many r t (read_count r m)) (lacks_conversion (read_shown r m t)) (has_misfit (read_shown r m t))
      bad_type no_read_access bad_count no_convert get_fail none) (over t typed))

  pub counted-over : r.count < read_count r m → AreShownWithin r m 0
  counted-over over = many (λ t typed. over-count r t (read_count r m) over)

  module _ (t : ImageType) (size : ℕ) (numbered : image_number t ≡ m.data_type) (is : size ≡ size_in t (read_count r m)) where
    same-type : (u : ImageType) → image_type_of m.data_type ≡ Some u → t ≡ u
    same-type u typed = some_is t u (sym (image_type-of-number t m.data_type numbered) ∙ typed)

    pub sized-over : payload_limit < size → AreShownWithin r m 0
    sized-over over = many (λ u typed. over-size r u (read_count r m) (let one : size ≡ size_in u (read_count r m) = is ∙ ap (λ (x : ImageType). size_in x (read_count r m)) (same-type u typed) in omega (arith, over, one)))

    -- it has that size, and its padding
    pub sized-shown : IsRecord r → AreShownWithin r m (size + 7)
    sized-shown record_is rights u e typed none shows =
        let len = length-image_of u (read_count r m) r.value e r.meta record_is.valued shows in
        let one : size ≡ size_in u (read_count r m) = is ∙ ap (λ (x : ImageType). size_in x (read_count r m)) (same-type u typed) in
        let all = length-padded (image_of r.value u e r.meta) in
        omega (arith, len, one, all)
