-- Worked histories of a shared credit book.
use Rattle.std.specs.Prelude.{◌≡◌, true, [], refl}
use Rattle.creditbook.specs.Books.{new_book, after_admit, after_end_local}
use Rattle.connbook.specs.declared.answers.Receipt.TheVariants.{Feed, Discard, CallWindow, Overrun}
use Rattle.connbook.specs.Receipts.{
  receipt_of,
  after_receipt,
  after_admission,
  credit_of,
  after_credit,
  after_stop,
}

-- DATA of 10 bytes, 3 of them padding, on a live call: 7 are left to return
pub feeds : receipt_of (after_admit new_book 1) 1 10 ≡ Feed
feeds = refl

pub padding_is_back : (after_receipt (after_admit new_book 1) 1 10 3 Feed).connection.returned ≡ 3
padding_is_back = refl

-- DATA on a call that isn't live, and on one whose local end is marked
pub discards : receipt_of (after_admit new_book 1) 3 10 ≡ Discard
discards = refl

pub discards_ended : receipt_of (after_end_local (after_admit new_book 1) 1) 1 10 ≡ Discard
discards_ended = refl

-- a byte past both windows is past the connection's
pub overruns : receipt_of (after_admit new_book 1) 1 65536 ≡ Overrun
overruns = refl

-- A call that isn't live opened the connection's window again, and the window of call 1 is used up:
-- one more byte is past it, and counts on the connection.
pub past_the_call :
    let b =
    after_credit (after_receipt (after_receipt (after_admit new_book 1) 1 65535 0 Feed)
    3 0 0 Discard) 0 in
    receipt_of (record b {
      connection = record b.connection { returned = 65535; announced = 65535 };
    }) 1 1 ≡ CallWindow
past_the_call = refl

-- nothing is due while the peer may send more than was returned; half of the window is due
pub not_yet_due : credit_of (after_receipt new_book 0 32767 0 Discard) 0 ≡ 0
not_yet_due = refl

pub due : credit_of (after_receipt new_book 0 32768 0 Discard) 0 ≡ 32768
due = refl

-- after the stop no call stays
pub stopped : after_admission true new_book 1 ≡ record new_book { last = 1 }
stopped = refl

pub all_are_cut : (after_stop (after_admit (after_admit new_book 1) 3)).calls ≡ []
all_are_cut = refl
