-- What a poll of the sender at a place changes of all calls.
use Rattle.std.proofs.Common.{
  ◌≡◌,
  ℕ,
  ◌<◌,
  sym,
  ap,
  subst,
  ◌∙◌,
  List,
  [],
  ◌∷◌,
  ◌++◌,
  Option,
  Some,
  None,
  length,
  arith,
  inl,
  inr,
  refl,
}
use Rattle.std.specs.Prelude.{Result, Ok, Err, OnErr, IfOk, map, get_or, set, ◌≢◌}
use Rattle.std.proofs.lemmas.List.{
  map-set,
  get_or-map,
  get_or-set_same,
  get_or-set_other,
  length-set,
}
use Rattle.std.proofs.Math.Seq.{map-set_same}
use Rattle.account.specs.declared.call.OutItem.{OutItem}
use Rattle.account.specs.declared.call.OutItem.TheVariants as item
use Rattle.callbox.specs.declared.sender.Sender.{Sender}
use Rattle.lane.specs.Lawful.{last_of}
use Rattle.lane.proofs.KnownItems.{last_of_push}
use Rattle.hpack_codec.specs.Codec.{Encoding}
use Rattle.outwriter.specs.OpenStreams.{Shown, shown}
use Rattle.outwriter.specs.declared.stream.OpenStream.{OpenStream}
use Rattle.outwriter.specs.declared.stream.SenderItem.{SenderItem}
use Rattle.outwriter.specs.declared.stream.SenderItem.TheVariants as polled
use Rattle.outwriter.specs.Cores.{calls, lanes}
use Rattle.outwriter.specs.StreamLooks.{with_item, one_more, TakesHand, TakesAt, SameAhead, aheads}
use Rattle.outwriter.specs.NextOn.{GetsOne}
use Rattle.outwriter.specs.Polls.{Polls, block_item, GotNone, to_write}

module _ {L In Out Shut : Type 0} where
  more-one : (got : Out → List OutItem) (senders : List (ℕ × Sender L In Out Shut)) (place : ℕ)
      (entry : ℕ × Sender L In Out Shut) (new : Sender L In Out Shut) (one : OutItem)
      → place < length senders → entry ≡ get_or senders place entry
      → got new.rx ≡ got entry.1.rx ++ one ∷ []
      → calls got (set senders place (entry.0, new)) ≡ one_more place one (calls got senders)
  more-one got senders place entry new one lt is e =
      let f : ℕ × Sender L In Out Shut → ℕ × List OutItem = λ call. (call.0, got call.1.rx) in
      let was : f entry ≡ get_or (map f senders) place (0, []) =
      ap f is ∙ sym (get_or-map f senders place entry (0, []) lt) in
      map-set f senders place (entry.0, new)
      ∙ ap (λ (c : ℕ × List OutItem). set (map f senders) place c)
      (ap (λ (l : List OutItem). (entry.0, l)) e ∙ ap (with_item one) was)

  -- nothing more, or the word that its call was left
  none-one : (got : Out → List OutItem) (senders : List (ℕ × Sender L In Out Shut)) (place : ℕ)
      (entry : ℕ × Sender L In Out Shut) (new : Sender L In Out Shut)
      → place < length senders → entry ≡ get_or senders place entry
      → GotNone (got entry.1.rx) (got entry.1.rx ++ item.Left ∷ []) (got new.rx)
      → GotNone (calls got senders) (one_more place item.Left (calls got senders))
      (calls got (set senders place (entry.0, new)))
  none-one got senders place entry new lt is (inl e) =
      inl
      (map-set_same (λ (call : ℕ × Sender L In Out Shut). (call.0, got call.1.rx)) senders place
      (entry.0, new) entry
      (ap (λ (l : List OutItem). (entry.0, l)) e
      ∙ ap (λ (call : ℕ × Sender L In Out Shut). (call.0, got call.1.rx)) is))
  none-one got senders place entry new lt is (inr e) =
      inr (more-one got senders place entry new item.Left lt is e)

  pub polled-at : {E : Type 0} (got ahead : Out → List OutItem)
      (senders : List (ℕ × Sender L In Out Shut)) (place : ℕ) (entry : ℕ × Sender L In Out Shut)
      (new : Sender L In Out Shut)
      (from to : Option Encoding) (result : Result SenderItem E)
      → place < length senders → entry ≡ get_or senders place entry
      → IfOk result (Polls (got entry.1.rx) (got new.rx) (ahead new.rx) from to)
      → OnErr result ((one : OutItem) × (got new.rx ≡ got entry.1.rx ++ one ∷ []))
      → TakesHand None place (calls got senders) (calls got (set senders place (entry.0, new)))
      (aheads ahead (set senders place (entry.0, new))) from to result
  polled-at got ahead senders place entry new from to (Ok polled.Nothing) lt is p err = (
    none-one got senders place entry new lt is p.0,
    get_or-map (λ (call : ℕ × Sender L In Out Shut). ahead call.1.rx)
        (set senders place (entry.0, new)) place entry []
        (omega (arith, lt, length-set senders place (entry.0, new)))
        ∙ ap (λ (call : ℕ × Sender L In Out Shut). ahead call.1.rx)
        (get_or-set_same senders place (entry.0, new) entry lt)
        ∙ p.1,
    p.2,
  )
  polled-at got ahead senders place entry new from to (Ok (polled.Message bytes)) lt is p err =
      (more-one got senders place entry new (item.Message bytes) lt is p.0, p.1)
  polled-at got ahead senders place entry new from to (Ok (polled.Block bytes ends)) lt is p err =
      (p.0, more-one got senders place entry new (block_item ends p.0) lt is p.1, p.2)
  polled-at got ahead senders place entry new from to (Err e) lt is p err =
      (err.0, more-one got senders place entry new err.0 lt is err.1)

  pub ahead-elsewhere : (ahead : Out → List OutItem) (senders : List (ℕ × Sender L In Out Shut))
      (place : ℕ) (call : ℕ × Sender L In Out Shut) (k : ℕ)
      → k ≢ place
      → get_or (aheads ahead (set senders place call)) k [] ≡ get_or (aheads ahead senders) k []
  ahead-elsewhere ahead senders place call k ne =
      ap (λ (l : List (List OutItem)). get_or l k [])
      (map-set (λ (c : ℕ × Sender L In Out Shut). ahead c.1.rx) senders place call)
      ∙ get_or-set_other (map (λ (c : ℕ × Sender L In Out Shut). ahead c.1.rx) senders) place k
      (ahead call.1.rx) [] ne

module _ {L In Out Shut Name : Type 0} where
  -- the senders are ends of the same lanes
  pub lanes-same : (name : Out → Name) (senders : List (ℕ × Sender L In Out Shut)) (place : ℕ)
      (entry : ℕ × Sender L In Out Shut) (new : Sender L In Out Shut)
      → entry ≡ get_or senders place entry → new.id ≡ entry.1.id → name new.rx ≡ name entry.1.rx
      → lanes name (set senders place (entry.0, new)) ≡ lanes name senders
  lanes-same name senders place entry new is id same =
      map-set_same (λ (call : ℕ × Sender L In Out Shut). (call.0, call.1.id, name call.1.rx))
      senders place (entry.0, new) entry
      (ap (λ (n : ℕ). (entry.0, n, name new.rx)) id
      ∙ ap (λ (n : Name). (entry.0, entry.1.id, n)) same
      ∙ ap (λ (call : ℕ × Sender L In Out Shut). (call.0, call.1.id, name call.1.rx)) is)

-- it gave one item at most
pub takes-one : {E : Type 0} (place : ℕ) (old new : List (ℕ × List OutItem))
    (ahead : List (List OutItem)) (from to : Option Encoding) (result : Result SenderItem E)
    → TakesHand None place old new ahead from to result → GetsOne old new
takes-one place old new ahead from to (Ok polled.Nothing) (inl e, none, same) = inl e
takes-one place old new ahead from to (Ok polled.Nothing) (inr e, none, same) =
    inr (place, item.Left, e)
takes-one place old new ahead from to (Ok (polled.Message bytes)) t =
    inr (place, item.Message bytes, t.0)
takes-one place old new ahead from to (Ok (polled.Block bytes ends)) t =
    inr (place, block_item ends t.0, t.1)
takes-one place old new ahead from to (Err e) t = inr (place, t.0, t.1)

pub shows-is : (o : Option OpenStream) (stream : OpenStream) → Some stream ≡ o
    → stream.in_hand ≡ None → shown o ≡ Some (stream.place, None)
shows-is o stream e none =
    ap shown (sym e) ∙ ap (λ (h : Option (List ℕ)). Some (stream.place, h)) none

pub takes-at : {E : Type 0} (view : Shown) (place : ℕ) (old new : List (ℕ × List OutItem))
    (ahead : List (List OutItem)) (from to : Option Encoding) (result : Result SenderItem E)
    → view ≡ Some (place, None) → TakesHand None place old new ahead from to result
    → TakesAt view old new ahead from to result
takes-at view place old new ahead from to result e t =
    subst (λ (v : Shown). TakesAt v old new ahead from to result) (sym e) t

pub same-ahead : (view : Shown) (place : ℕ) (old new : List (List OutItem))
    → view ≡ Some (place, None) → ((k : ℕ) → k ≢ place → get_or new k [] ≡ get_or old k [])
    → SameAhead view old new
same-ahead view place old new e same = subst (λ (v : Shown). SameAhead v old new) (sym e) same

-- behind the word that its call was left nothing of a sender is to be written
pub left-nothing : (before after ahead : List OutItem) (one : OutItem) → one ≡ item.Left
    → after ≡ before ++ one ∷ [] → to_write (last_of after) ahead ≡ []
left-nothing before after ahead one is e =
    ap (λ (items : List OutItem). to_write (last_of items) ahead) e
    ∙ ap (λ (o : Option OutItem). to_write o ahead)
    (last_of_push before one ∙ ap (λ (x : OutItem). Some x) is)

pub none-ahead : (last : Option OutItem) (ahead : List OutItem) → ahead ≡ []
    → to_write last ahead ≡ []
none-ahead None ahead e = e
none-ahead (Some item.Left) ahead e = refl
none-ahead (Some (item.Head fields)) ahead e = e
none-ahead (Some (item.Message bytes)) ahead e = e
none-ahead (Some (item.Trailers fields)) ahead e = e
