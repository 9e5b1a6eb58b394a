-- A worked book, computed.
use Rattle.std.proofs.Common.{◌≡◌, refl, None, lit<}
use Rattle.creditbook.specs.declared.book.fault.BookFault.TheVariants.{CallWindow, ConnectionWindow}
use Rattle.creditbook.specs.Books.{
  Books,
  new_book,
  after_admit,
  after_receive,
  after_give_back,
  after_announce,
  announcement,
  ReceiveCause,
  after_end_local,
  after_end_remote,
  after_cut,
  loose,
  call_at,
}

-- ten bytes came on call 1, whose local end is then marked, and seven more come
abbrev pub ended_early : Books
ended_early = after_receive (after_end_local (after_receive (after_admit new_book 1) 1 10) 1) 1 7

pub all_came : ended_early.connection.received ≡ 17
all_came = refl

pub all_returned : ended_early.connection.returned ≡ 17
all_returned = refl

pub all_to_announce : announcement ended_early 0 ≡ 17
all_to_announce = refl

pub nothing_left_to_announce : announcement (after_announce ended_early 0) 0 ≡ 0
nothing_left_to_announce = refl

pub none_on_a_call_that_ended : announcement ended_early 1 ≡ 0
none_on_a_call_that_ended = refl

pub nothing_loose : loose ended_early ≡ 0
nothing_loose = refl

-- with the peer's end both are marked
pub no_longer_live : call_at (after_end_remote ended_early 1) 1 ≡ None
no_longer_live = refl

-- three bytes of no call, and five of call 3, which is cut
abbrev pub of_no_call : Books
of_no_call = after_receive (after_receive (after_admit new_book 3) 3 5) 0 3

pub three_loose : loose of_no_call ≡ 3
three_loose = refl

pub five_returned : (after_cut of_no_call 3).connection.returned ≡ 5
five_returned = refl

pub still_three_loose : loose (after_cut of_no_call 3) ≡ 3
still_three_loose = refl

pub none_loose_any_more : loose (after_give_back of_no_call 0 3) ≡ 0
none_loose_any_more = refl

-- a whole window came on call 1: one more byte is over it, until bytes are returned and announced
abbrev pub full : Books
full = after_receive (after_admit new_book 1) 1 65535

abbrev pub announced_on_the_call : Books
announced_on_the_call = after_announce (after_give_back full 1 65535) 1

pub over_the_call : ReceiveCause full 1 1 CallWindow
over_the_call = (lit< tt, lit< tt)

pub a_window_is_due : announcement (after_give_back full 1 65535) 1 ≡ 65535
a_window_is_due = refl

-- the connection's window is still full
pub over_the_connection : ReceiveCause announced_on_the_call 1 1 ConnectionWindow
over_the_connection = lit< tt

pub of_the_connection_too : announcement announced_on_the_call 0 ≡ 65535
of_the_connection_too = refl
