use Rattle.std.proofs.Common.{◌≡◌, ◌∙◌, ◌<◌, ◌≤◌, ℕ, List, [], ◌∷◌, ◌++◌, length, map, false, sym, ap, subst, arith}
use Rattle.std.specs.Prelude.{◌==◌, vec_capacity}
use Rattle.std.proofs.lemmas.Bool.{eqb-true}
use Rattle.ca_wire.specs.Fields.{Fields}
use Rattle.ca_wire.specs.Front.{FrontFits}
use Rattle.ca_model.specs.History.{Reply}
use Rattle.ca_model.specs.ServerEvents.{about}
use Rattle.ca_world_data.specs.declared.history.Cause.TheVariants as cause
use Rattle.ca_world_data.specs.Seen.{told_of}
use Rattle.ca_world_data.proofs.RepliesWithin.{first-fits, none-spelled, one-told, second-fits, two-told}
use Rattle.ca_world_data.proofs.UpdateTellings.{rest-is}
use Rattle.ca_world_data.proofs.replies.replies_in.Goals as goal

-- where bytes are there is one
some-there : (bytes : List ℕ) → (length bytes == 0) ≡ false → 0 < length bytes
some-there [] none = absurd cc
some-there (b ∷ bytes) none = omega arith

some-bytes : (bytes : List ℕ) → 0 < length bytes → bytes ≡ [] → ⊥
some-bytes bytes some none = (let empty : length bytes ≡ 0 = ap (λ (l : List ℕ). length l) none in omega (arith, some, empty))

pub returns-then-is_empty-clause-all : goal.returns-then-is_empty-clause-all
returns-then-is_empty-clause-all c ms good are within =
    let bytes : List ℕ = c.args.bytes.now in
    let empty : length bytes ≡ 0 = eqb-true (length bytes) 0 (sym c.is_empty.ensures ∙ c.if-is_empty.true) in
    ap (map told_of) c.requires.spare.none ∙ ap (about c.args.place Reply) (sym (none-spelled ms (sym (ap (λ (l : List ℕ). length l) are) ∙ empty)))

pub message_at-message-requires-clause-front : goal.message_at-message-requires-clause-front
message_at-message-requires-clause-front c =
    let bytes : List ℕ = c.args.bytes.now in
    first-fits _ bytes c.requires.few (some-bytes bytes (some-there bytes (sym c.is_empty.ensures ∙ c.if-is_empty.false)))

pub message_at-message-requires-then-read-bytes-clause-front : goal.message_at-message-requires-then-read-bytes-clause-front
message_at-message-requires-then-read-bytes-clause-front c =
    let bytes : List ℕ = c.args.bytes.now in
    let lt : c.spelled_size-read.result < length bytes = omega (arith, c.if-read-bytes.true) in
    subst (λ (b : List ℕ × ℕ). FrontFits b.0 b.1) (λ i. (sym (rest-is bytes c.spelled_size-read.result) i, sym c.new.ensures.capacity i))
    (second-fits _ bytes c.requires.few c.spelled_size-read.result c.message_at-message.result c.message_at-message.ensures c.spelled_size-read.ensures lt)

pub returns-then-read-bytes-clause-all : goal.returns-then-read-bytes-clause-all
returns-then-read-bytes-clause-all c ms good are within =
    let bytes : List ℕ = c.args.bytes.now in
    let read : ℕ = c.spelled_size-read.result in
    let lt : read < length bytes = omega (arith, c.if-read-bytes.true) in
    let first : Fields = c.message_at-message.result in
    let second : Fields = c.message_at-message-then-read-bytes.result in
    let two : ms ≡ first ∷ second ∷ [] =
    two-told _ bytes read first c.message_at-message.ensures c.spelled_size-read.ensures second
    (λ m rest fine begins. c.message_at-message-then-read-bytes.ensures m rest fine (rest-is bytes read ∙ begins)) ms good are within lt in
    ap (map told_of) (c.push_reserved-then-read-bytes.ensures.items ∙ ap (λ t. t ++ record { message = second; place = c.args.place; cause = cause.Reply } ∷ []) (c.push_reserved.ensures.items ∙ ap (λ t. t ++ record { message = first; place = c.args.place; cause = cause.Reply } ∷ []) c.requires.spare.none))
    ∙ ap (about c.args.place Reply) (sym two)

pub returns-else-read-bytes-clause-all : goal.returns-else-read-bytes-clause-all
returns-else-read-bytes-clause-all c ms good are within =
    let bytes : List ℕ = c.args.bytes.now in
    let read : ℕ = c.spelled_size-read.result in
    let over : length bytes ≤ read = omega (arith, c.if-read-bytes.false) in
    let some : 0 < length bytes = some-there bytes (sym c.is_empty.ensures ∙ c.if-is_empty.false) in
    let first : Fields = c.message_at-message.result in
    let one : ms ≡ first ∷ [] = one-told (vec_capacity c.args.spare.payload) bytes read first c.message_at-message.ensures c.spelled_size-read.ensures ms good are some over in
    ap (map told_of) (c.push_reserved.ensures.items ∙ ap (λ t. t ++ record { message = first; place = c.args.place; cause = cause.Reply } ∷ []) c.requires.spare.none)
    ∙ ap (about c.args.place Reply) (sym one)
