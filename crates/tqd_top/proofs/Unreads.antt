-- Which file could not be read, in the words of a longer reading.
use Rattle.std.proofs.Common.{◌≡◌, Bool, List, take, Option, Some, refl, sym, subst}
use Rattle.std.specs.Prelude.{Ok}
use Rattle.tqd_base.specs.World.{World, State, Name}
use Rattle.tqd_base.specs.Calls.{Rests}
use Rattle.bom_reader.specs.Bill.{OrdersData}
use Rattle.plan_report.specs.declared.file.InputFile.{InputFile}
use Rattle.plan_report.specs.declared.file.InputFile.TheVariants.{Orders, Bill, Offers, Terms, Tree, Old, Scenario}
use Rattle.tqd_top.specs.declared.reading.NeedsRead.{NeedsRead}
use Rattle.tqd_top.specs.declared.reading.OffersRead.{OffersRead}
use Rattle.command_words.specs.Words.{FilesNamed}
use Rattle.tqd_top.specs.JobOf.{NeedsOf, OffersOf, OrdersOf}
use Rattle.tqd_top.specs.Scenarios.{AreStated}
use Rattle.tqd_top.specs.Inner.Steps.{IsFileUnread}
use Rattle.tqd_top.specs.Unread.{FailsAtGiven, IsUnread, IsUnreadBill, IsUnreadOffers, IsUnreadScenarios, IsUnreadTerms}
use Rattle.tqd_top.proofs.Readings.{fails_later}

pub given_file : (old new : State) (file : InputFile) (name : Name) (failed : InputFile) → IsFileUnread old new file name failed → (failed ≡ file) × FailsAtGiven old new (Some name)
given_file old new file name failed f = (f.is_file, (name, refl, f.fails))

pub unread_orders : (a : Bool) (old new : State) (orders : Name) (bill : Option Name) (failed : InputFile) → IsFileUnread old new Orders orders failed
    → IsUnreadBill a old new orders bill failed
unread_orders a old new orders bill failed f = subst (IsUnreadBill a old new orders bill) (sym f.is_file) f.fails

pub unread_bill : (a : Bool) (old mid new : State) (orders : Name) (bill : Option Name) (read : OrdersData) (failed : InputFile) → Rests old mid → OrdersOf a old.world orders (Ok read)
    → (failed ≡ Bill) × FailsAtGiven mid new bill → IsUnreadBill a old new orders bill failed
unread_bill a old mid new orders bill read failed rests states f =
    subst (IsUnreadBill a old new orders bill) (sym f.0) (read, states, (f.1.0, f.1.1, fails_later old mid new f.1.0 rests f.1.2))

pub unread_of_bill : (a : Bool) (old new : State) (files : FilesNamed) (failed : InputFile) → IsUnreadBill a old new files.orders files.bill failed → IsUnreadOffers a old new files failed
unread_of_bill a old new files Orders f = f
unread_of_bill a old new files Bill f = f
unread_of_bill a old new files Offers f = absurd f
unread_of_bill a old new files Terms f = absurd f
unread_of_bill a old new files Tree f = absurd f
unread_of_bill a old new files Old f = absurd f
unread_of_bill a old new files (Scenario at) f = absurd f

pub unread_offers : (a : Bool) (old mid new : State) (files : FilesNamed) (read : NeedsRead) (failed : InputFile) → Rests old mid → NeedsOf a old.world files.orders files.bill (Ok read)
    → IsFileUnread mid new Offers files.offers failed → IsUnreadOffers a old new files failed
unread_offers a old mid new files read failed rests states f =
    subst (IsUnreadOffers a old new files) (sym f.is_file) (read, states, fails_later old mid new files.offers rests f.fails)

pub unread_of_offers : (a : Bool) (old new : State) (files : FilesNamed) (failed : InputFile) → IsUnreadOffers a old new files failed → IsUnread a old new files failed
unread_of_offers a old new files Orders f = f
unread_of_offers a old new files Bill f = f
unread_of_offers a old new files Offers f = f
unread_of_offers a old new files Terms f = absurd f
unread_of_offers a old new files Tree f = absurd f
unread_of_offers a old new files Old f = absurd f
unread_of_offers a old new files (Scenario at) f = absurd f

pub unread_with_words : (a : Bool) (old new : State) (files : FilesNamed) (terms : List (Option Name)) (failed : InputFile) → IsUnreadOffers a old new files failed
    → IsUnreadScenarios a old new files terms failed
unread_with_words a old new files terms Orders f = f
unread_with_words a old new files terms Bill f = f
unread_with_words a old new files terms Offers f = f
unread_with_words a old new files terms Terms f = absurd f
unread_with_words a old new files terms Tree f = absurd f
unread_with_words a old new files terms Old f = absurd f
unread_with_words a old new files terms (Scenario at) f = absurd f

pub unread_word : (a : Bool) (old mid new : State) (files : FilesNamed) (terms : List (Option Name)) (read : OffersRead) (failed : InputFile) → Rests old mid → OffersOf a old.world files (Ok read)
    → IsUnreadTerms a mid new read terms failed → IsUnreadScenarios a old new files terms failed
unread_word a old mid new files terms read failed rests states f = subst (IsUnreadScenarios a old new files terms) (sym f.is_file) (
  read,
  states,
  record {
    before = f.before;
    jobs = f.jobs;
    stated = subst (λ (w : World). AreStated a w read (take f.before terms) f.jobs) rests.world f.stated;
    is_file = refl;
    fails = (f.fails.0, f.fails.1, fails_later old mid new f.fails.0 rests f.fails.2);
  },
)

pub unread_terms : (a : Bool) (old mid new : State) (files : FilesNamed) (read : OffersRead) (failed : InputFile) → Rests old mid → OffersOf a old.world files (Ok read)
    → (failed ≡ Terms) × FailsAtGiven mid new files.terms → IsUnread a old new files failed
unread_terms a old mid new files read failed rests states f =
    subst (IsUnread a old new files) (sym f.0) (read, states, (f.1.0, f.1.1, fails_later old mid new f.1.0 rests f.1.2))
