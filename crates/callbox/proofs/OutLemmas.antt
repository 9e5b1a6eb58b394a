-- What went through the out side, item by item, and the run of its events.
use Rattle.std.proofs.Common.{
  ◌≡◌,
  ◌≢◌,
  ℕ,
  ◌+◌,
  Bool,
  true,
  false,
  List,
  [],
  ◌∷◌,
  ◌++◌,
  length,
  Option,
  Some,
  Result,
  Ok,
  Err,
  refl,
  sym,
  ap,
  subst,
  ◌∙◌,
  append_assoc,
  arith,
  inl,
  inr,
  eqb,
  MatchBool,
}
use Rattle.std.specs.Prelude.{◌&&◌, map, fold, slice_get, OnOk, OnErr}
use Rattle.std.proofs.lemmas.Bool.{cases_eq, eq-eqb, ne_eqb}
use Rattle.std.proofs.lemmas.List.{append-nil, length-append}
use Rattle.std.proofs.lemmas.Grind.{fold-append}
use mathlib.Core.List.{IsPrefix}
use Rattle.lists.specs.declared.field.Field.{Field}
use Rattle.lane.specs.Lawful.{count_of}
use Rattle.lpm.specs.Messages.{IsFrame}
use Rattle.lpm.specs.Reading.{messages_of}
use Rattle.lpm.proofs.OneMessage.{is_frame-IsFrame}
use Rattle.account.specs.declared.call.Account.{Account}
use Rattle.account.specs.declared.call.CallEvent.TheVariants as event
use Rattle.account.specs.declared.call.OutItem.{OutItem}
use Rattle.account.specs.declared.call.OutItem.TheVariants.{Head, Message, Trailers, Left}
use Rattle.account.specs.Accounts.{IsBody, IsResponse}
use Rattle.callbox.specs.OutAccounts.{CountsOut}
use Rattle.callbox.specs.OutSides.{has_end, has_head, has_trailers, out_account, out_events}
use Rattle.account.specs.Runs.{after, run, opened, may_follow, last_of}
use Rattle.account.proofs.SerialLemmas.{
  last,
  last_of-last,
  slice_get-behind,
  after-give,
  after-send,
}

-- ---- one item more

pub has_head-push : (items : List OutItem) (item : OutItem) → has_head items ≡ true
    → has_head (items ++ item ∷ []) ≡ true
has_head-push [] item e = absurd cc
has_head-push (Head fields ∷ items) item e = refl
has_head-push (Message bytes ∷ items) item e = absurd cc
has_head-push (Trailers fields ∷ items) item e = absurd cc
has_head-push (Left ∷ items) item e = absurd cc

pub has_trailers-push : (items : List OutItem) (item : OutItem) → has_trailers items ≡ false
    → has_trailers (items ++ item ∷ []) ≡ has_trailers (item ∷ [])
has_trailers-push [] item e = refl
has_trailers-push (Head fields ∷ items) item e = has_trailers-push items item e
has_trailers-push (Message bytes ∷ items) item e = has_trailers-push items item e
has_trailers-push (Trailers fields ∷ items) item e = absurd cc
has_trailers-push (Left ∷ items) item e = has_trailers-push items item e

pub has_end-push : (items : List OutItem) (item : OutItem) → has_end items ≡ false
    → has_end (items ++ item ∷ []) ≡ has_end (item ∷ [])
has_end-push [] item e = refl
has_end-push (Head fields ∷ items) item e = has_end-push items item e
has_end-push (Message bytes ∷ items) item e = has_end-push items item e
has_end-push (Trailers fields ∷ items) item e = absurd cc
has_end-push (Left ∷ items) item e = absurd cc

-- trailers are an end
pub no_trailers : (items : List OutItem) → has_end items ≡ false → has_trailers items ≡ false
no_trailers [] e = refl
no_trailers (Head fields ∷ items) e = no_trailers items e
no_trailers (Message bytes ∷ items) e = no_trailers items e
no_trailers (Trailers fields ∷ items) e = absurd cc
no_trailers (Left ∷ items) e = absurd cc

-- an item that may stand behind a head
abbrev IsTail : OutItem → Type 0
IsTail (Head fields) = ⊥
IsTail (Message bytes) = IsFrame bytes
IsTail (Trailers fields) = Unit {0}
IsTail Left = Unit {0}

body_push : (items : List OutItem) (item : OutItem) → IsBody items → has_end items ≡ false
    → IsTail item → IsBody (items ++ item ∷ [])
body_push [] (Head fields) body going tail = absurd tail
body_push [] (Message bytes) body going tail = (tail, tt)
body_push [] (Trailers fields) body going tail = refl
body_push [] Left body going tail = refl
body_push (Head fields ∷ items) item body going tail = absurd body
body_push (Message bytes ∷ items) item body going tail =
    (body.0, body_push items item body.1 going tail)
body_push (Trailers fields ∷ items) item body going tail = absurd cc
body_push (Left ∷ items) item body going tail = absurd cc

pub response_frame : (items : List OutItem) (framed : List ℕ) → IsResponse items
    → has_head items ≡ true → has_end items ≡ false → IsFrame framed
    → IsResponse (items ++ Message framed ∷ [])
response_frame [] framed response begun going fits = absurd cc
response_frame (Head fields ∷ items) framed response begun going fits =
    body_push items (Message framed) response going fits
response_frame (Message bytes ∷ items) framed response begun going fits = absurd response
response_frame (Trailers fields ∷ items) framed response begun going fits = absurd cc
response_frame (Left ∷ items) framed response begun going fits = absurd cc

pub response_trailers : (items : List OutItem) (fields : List Field) → IsResponse items
    → has_end items ≡ false → IsResponse (items ++ Trailers fields ∷ [])
response_trailers [] fields response going = refl
response_trailers (Head first ∷ items) fields response going =
    body_push items (Trailers fields) response going tt
response_trailers (Message bytes ∷ items) fields response going = absurd response
response_trailers (Trailers first ∷ items) fields response going = absurd cc
response_trailers (Left ∷ items) fields response going = absurd cc

pub not_begun : (items : List OutItem) → IsResponse items → has_end items ≡ false
    → has_head items ≡ false → items ≡ []
not_begun [] response going e = refl
not_begun (Head fields ∷ items) response going e = absurd cc
not_begun (Message bytes ∷ items) response going e = absurd response
not_begun (Trailers fields ∷ items) response going e = absurd cc
not_begun (Left ∷ items) response going e = absurd cc

-- what holds of what was put before and with the item holds after a put
pub put_or_kept : {A E : Type 0} (P : List OutItem → Type 0) (r : Result A E)
    (put new : List OutItem) (item : OutItem)
    → OnOk r (new ≡ put ++ item ∷ []) → OnErr r (new ≡ put) → P put → P (put ++ item ∷ []) → P new
put_or_kept P (Ok x) put new item ok kept before behind = subst P (sym ok) behind
put_or_kept P (Err e) put new item ok kept before behind = subst P (sym kept) before

-- ---- the trailers

abbrev pub Placed : Bool → List OutItem → List OutItem → List Field → Type 0
Placed placed put new fields = MatchBool placed (new ≡ put ++ Trailers fields ∷ []) (new ≡ put)

pub placed_response : (placed : Bool) (put new : List OutItem) (fields : List Field)
    → IsResponse put → has_end put ≡ false → Placed placed put new fields → IsResponse new
placed_response true put new fields response going is =
    subst IsResponse (sym is) (response_trailers put fields response going)
placed_response false put new fields response going is = subst IsResponse (sym is) response

pub placed_closed : (placed : Bool) (put new : List OutItem) (fields : List Field)
    → has_trailers put ≡ false → Placed placed put new fields → has_trailers new ≡ (true && placed)
placed_closed true put new fields going is =
    ap has_trailers is ∙ has_trailers-push put (Trailers fields) going
placed_closed false put new fields going is = ap has_trailers is ∙ going

-- ---- that the call was left

abbrev pub PlacedLeft : Bool → List OutItem → List OutItem → Type 0
PlacedLeft placed put new = MatchBool placed (new ≡ put ++ Left ∷ []) (new ≡ put)

response_left : (items : List OutItem) → IsResponse items → has_end items ≡ false
    → IsResponse (items ++ Left ∷ [])
response_left [] response going = refl
response_left (Head first ∷ items) response going = body_push items Left response going tt
response_left (Message bytes ∷ items) response going = absurd response
response_left (Trailers first ∷ items) response going = absurd cc
response_left (Left ∷ items) response going = absurd cc

pub left_response : (placed : Bool) (put new : List OutItem) → IsResponse put → has_end put ≡ false
    → PlacedLeft placed put new → IsResponse new
left_response true put new response going is =
    subst IsResponse (sym is) (response_left put response going)
left_response false put new response going is = subst IsResponse (sym is) response

pub left_closed : (placed : Bool) (put new : List OutItem) → has_trailers put ≡ false
    → PlacedLeft placed put new → has_trailers new ≡ (false && placed)
left_closed true put new going is = ap has_trailers is ∙ has_trailers-push put Left going
left_closed false put new going is = ap has_trailers is ∙ going

-- ---- what left begins what was given

not_empty : (items : List OutItem) (item : OutItem) (rest : List OutItem)
    → items ++ item ∷ rest ≡ [] → ⊥
not_empty [] item rest e = cc
not_empty (first ∷ items) item rest e = cc

body_front : (items : List OutItem) (item : OutItem) (rest : List OutItem)
    → IsBody (items ++ item ∷ rest) → has_trailers items ≡ false
body_front [] item rest body = refl
body_front (Head fields ∷ items) item rest body = absurd body
body_front (Message bytes ∷ items) item rest body = body_front items item rest body.1
body_front (Trailers fields ∷ items) item rest body = absurd (not_empty items item rest body)
body_front (Left ∷ items) item rest body = absurd (not_empty items item rest body)

-- trailers stand last
response_front : (items : List OutItem) (item : OutItem) (rest : List OutItem)
    → IsResponse (items ++ item ∷ rest) → has_trailers items ≡ false
response_front [] item rest response = refl
response_front (Head fields ∷ items) item rest response = body_front items item rest response
response_front (Message bytes ∷ items) item rest response = absurd response
response_front (Trailers fields ∷ items) item rest response =
    absurd (not_empty items item rest response)
response_front (Left ∷ items) item rest response = absurd (not_empty items item rest response)

open_front : (items rest : List OutItem) → has_trailers (items ++ rest) ≡ false
    → has_trailers items ≡ false
open_front [] rest e = refl
open_front (Head fields ∷ items) rest e = open_front items rest e
open_front (Message bytes ∷ items) rest e = open_front items rest e
open_front (Trailers fields ∷ items) rest e = absurd cc
open_front (Left ∷ items) rest e = open_front items rest e

pub sent_open : (given sent : List OutItem) → IsPrefix sent given → has_trailers given ≡ false
    → false ≡ has_trailers sent
sent_open given sent begins going =
    sym (open_front sent begins.0 (ap has_trailers begins.1 ∙ going))

sent_all : (given sent : List OutItem) (left : ℕ) → IsPrefix sent given
    → length given ≡ length sent + left → left ≡ 0 → has_trailers given ≡ has_trailers sent
sent_all given sent left (rest, is) count none = by_rest rest is
  where
    by_rest : (rest : List OutItem) → sent ++ rest ≡ given → has_trailers given ≡ has_trailers sent
    by_rest [] is = ap has_trailers (sym is ∙ append-nil sent)
    by_rest (item ∷ rest) is =
        absurd (omega (arith, count, none, ap length is, length-append sent (item ∷ rest)))

sent_some : (given sent : List OutItem) (left : ℕ) → IsResponse given → IsPrefix sent given
    → length given ≡ length sent + left → left ≢ 0 → false ≡ has_trailers sent
sent_some given sent left response (rest, is) count some = by_rest rest is
  where
    by_rest : (rest : List OutItem) → sent ++ rest ≡ given → false ≡ has_trailers sent
    by_rest [] is = absurd (some (omega (arith, count, ap length is, length-append sent [])))
    by_rest (item ∷ rest) is =
        sym (response_front sent item rest (subst IsResponse (sym is) response))

-- where trailers were given they left exactly where nothing is left
pub sent_last : (given sent : List OutItem) (left : ℕ) → IsResponse given → IsPrefix sent given
    → length given ≡ length sent + left → has_trailers given ≡ true → eqb left 0 ≡ has_trailers sent
sent_last given sent left response begins count closed = elim (cases_eq left 0) [
  | inl none ↦ eq-eqb left 0 none ∙ sym closed ∙ sent_all given sent left begins count none
  | inr some ↦ ne_eqb left 0 some ∙ sent_some given sent left response begins count some
]

-- ---- the run

is_open : OutItem → Bool
is_open (Head fields) = true
is_open (Message bytes) = true
is_open (Trailers fields) = false
is_open Left = false

body_follows : (previous : OutItem) (items : List OutItem) (item : OutItem) (rest : List OutItem)
    → is_open previous ≡ true → IsBody (items ++ item ∷ rest)
    → may_follow (Some (last previous items)) item ≡ true
unfolding is_open
body_follows previous [] (Head fields) rest going body = absurd body
body_follows (Head first) [] (Message bytes) rest going body = is_frame-IsFrame bytes body.0
body_follows (Message first) [] (Message bytes) rest going body = is_frame-IsFrame bytes body.0
body_follows (Trailers first) [] (Message bytes) rest going body = absurd cc
body_follows Left [] (Message bytes) rest going body = absurd cc
body_follows (Head first) [] (Trailers fields) rest going body = refl
body_follows (Message first) [] (Trailers fields) rest going body = refl
body_follows (Trailers first) [] (Trailers fields) rest going body = absurd cc
body_follows Left [] (Trailers fields) rest going body = absurd cc
body_follows (Head first) [] Left rest going body = refl
body_follows (Message first) [] Left rest going body = refl
body_follows (Trailers first) [] Left rest going body = absurd cc
body_follows Left [] Left rest going body = absurd cc
body_follows previous (Head fields ∷ items) item rest going body = absurd body
body_follows previous (Message bytes ∷ items) item rest going body =
    body_follows (Message bytes) items item rest refl body.1
body_follows previous (Trailers fields ∷ items) item rest going body =
    absurd (not_empty items item rest body)
body_follows previous (Left ∷ items) item rest going body = absurd (not_empty items item rest body)

follows : (before : List OutItem) (item : OutItem) (rest : List OutItem)
    → IsResponse (before ++ item ∷ rest) → may_follow (last_of before) item ≡ true
unfolding is_open
follows [] (Head fields) rest response = refl
follows [] (Message bytes) rest response = absurd response
follows [] (Trailers fields) rest response = refl
follows [] Left rest response = refl
follows (Head fields ∷ items) item rest response =
    ap (λ (o : Option OutItem). may_follow o item) (last_of-last (Head fields) items)
    ∙ body_follows (Head fields) items item rest refl response
follows (Message bytes ∷ items) item rest response = absurd response
follows (Trailers fields ∷ items) item rest response = absurd (not_empty items item rest response)
follows (Left ∷ items) item rest response = absurd (not_empty items item rest response)

run_gives : (given before : List OutItem) (a : Account) → a.given ≡ before
    → IsResponse (before ++ given)
    → fold after a (map event.Give given) ≡ record a { given = before ++ given }
run_gives [] before a is response =
    ap (λ (items : List OutItem). record a { given = items }) (is ∙ sym (append-nil before))
run_gives (item ∷ given) before a is response =
    let regrouped : (before ++ item ∷ []) ++ given ≡ before ++ item ∷ given =
    append_assoc before (item ∷ []) given in
    let may : may_follow (last_of a.given) item ≡ true =
    ap (λ (items : List OutItem). may_follow (last_of items) item) is
    ∙ follows before item given response in
    ap (λ (b : Account). fold after b (map event.Give given)) (after-give a item may
    ∙ ap (λ (items : List OutItem). record a { given = items ++ item ∷ [] }) is)
    ∙ run_gives given (before ++ item ∷ []) (record a { given = before ++ item ∷ [] }) refl
    (subst IsResponse (sym regrouped) response)
    ∙ ap (λ (items : List OutItem). record a { given = items }) regrouped

run_sends : (sent rest before : List OutItem) (a : Account)
    → a.given ≡ before ++ (sent ++ rest) → a.sent ≡ before
    → fold after a (map (λ _. event.Send) sent) ≡ record a { sent = before ++ sent }
run_sends [] rest before a all is =
    ap (λ (items : List OutItem). record a { sent = items }) (is ∙ sym (append-nil before))
run_sends (item ∷ sent) rest before a all is =
    let regrouped : (before ++ item ∷ []) ++ sent ≡ before ++ item ∷ sent =
    append_assoc before (item ∷ []) sent in
    let next =
    ap (slice_get a.given) (ap length is)
    ∙ ap (λ (items : List OutItem). slice_get items (length before)) all
    ∙ slice_get-behind before item (sent ++ rest) in
    ap (λ (b : Account). fold after b (map (λ _. event.Send) sent)) (after-send a item next
    ∙ ap (λ (items : List OutItem). record a { sent = items ++ item ∷ [] }) is)
    ∙ run_sends sent rest (before ++ item ∷ []) (record a { sent = before ++ item ∷ [] })
    (all ∙ sym (append_assoc before (item ∷ []) (sent ++ rest))) refl
    ∙ ap (λ (items : List OutItem). record a { sent = items }) regrouped

run_out : (given sent : List OutItem) → IsResponse given → IsPrefix sent given
    → out_account given sent ≡ run (out_events given sent)
run_out given sent response begins =
    let sends = map (λ _. event.Send) sent in
    let all : Account = record opened { given = given } in
    sym (
    fold-append after opened (map event.Give given) sends
    ∙ ap (λ (a : Account). fold after a sends) (run_gives given [] opened refl response)
    ∙ run_sends sent begins.0 [] all (sym begins.1) refl)

pub counts_out : (given sent : List OutItem) (put got : ℕ) (trailers_given trailers_sent : Bool)
    → IsResponse given → IsPrefix sent given → put ≡ count_of given → got ≡ count_of sent
    → trailers_given ≡ has_trailers given
    → trailers_sent ≡ has_trailers sent
    → CountsOut given sent (record {
      given = put;
      sent = got;
      trailers_given = trailers_given;
      trailers_sent = trailers_sent;
    })
counts_out given sent put got trailers_given trailers_sent response begins put_is got_is given_is
    sent_is = record {
      lawful = record {
        taken = (messages_of [], refl);
        told = tt;
        sent = (begins.0, sym begins.1);
        given = response;
      };
      run = run_out given sent response begins;
      given = put_is;
      sent = got_is;
      trailers_given = given_is;
      trailers_sent = sent_is;
    }
